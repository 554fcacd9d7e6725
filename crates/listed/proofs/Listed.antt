-- THE WHOLE SHEET: for every image, the lines of `open` and `next_line` together are the definition's sheet, however many more are asked
-- for. The idea of the proof: what the walk's steps say is demand 3's row and then none, so each step's line is the next of the sheet;
-- and demand 3's bound on the moves keeps their sum from wrapping.
use Rattle.std.specs.Prelude.{◌≡◌, ◌∷◌, ◌++◌, ◌+◌, ◌^◌, ◌≤◌, ◌<◌, Option, Some, None, Result, Ok, Err}
use Rattle.base.specs.Kit.{refl, sym, ap, ◌∙◌, subst, Bool, true, List, [], append_assoc, append-nil, ℕ, zero, suc, zero-add, add-one, mod-eq_of_lt, arith, length, take, get_or, replicate, ne_eqb}
use Rattle.base.specs.Pick.{pick}
use Rattle.base.specs.Decline.{decline_number}
use Rattle.base.proofs.Declines.{never-zero}
use Rattle.node.specs.Layout.{key_count}
use Rattle.layering.specs.Keys.{Pair, live_pairs}
use Rattle.layering.specs.Ascending.{All}
use Rattle.layering.specs.Sieve.{past, row_of}
use Rattle.layering.proofs.Pairs.{pairs-short}
use Rattle.layering.proofs.Sieve.{all-sieve}
use Rattle.layering.proofs.Size.{moves-fit}
use Rattle.cursor.specs.RangeBound.{contains}
use Rattle.verify.specs.Check.{check_number, check}
use Rattle.verify.specs.Acceptance.{tree_counts}
use Rattle.verify.proofs.Theorem.{accepted_obeys}
use Rattle.walk.specs.Walk.{number_of, keys_of, len_of, value_of}
use Rattle.walk.specs.Placing.{place}
use Rattle.scan.specs.Machine.{step}
use Rattle.lent.specs.Form.{step_as}
use Rattle.demands.specs.Demand.{steps, calls_of, Said, hands_out, none, declines, said_by, said, moves_of, head_said, tail_of, due}
use Rattle.demands.proofs.Calls.{own-lent, own_calls}
use Rattle.demands.proofs.Demand.{demand-3, is-taken}
use Rattle.sheet.specs.Sheet.{first_line, pair_line, pair_lines, last_line, sheet, refused}
use Rattle.listed.specs.Types.{Decline, From, Counts, KeyOut, Stepped, Walk, Line, Listing, Stage, First, Pairs, Refused, Done}
use Rattle.listed.specs.CodeLines.{line_of, begun, opened_as, opened, sum_of, answer_line, line_at, next_line}
use Rattle.listed.specs.Listed.{listed_pairs, walk_moves, listed, line_count, left_by, lines_of, line_text, text_of, line_number, line_numbers, HasBytes, Filled, AllLines}
use Rattle.listed.proofs.Few.{few-lines}
use Rattle.listed.proofs.Fits.{Fits, written-len, written-text, first_fits, last_fits, refused-fits, pair_fits}

-- what is said, by the answer
module _ (l : Listing) (s : Stepped) where
  abbrev Line-of : List ℕ → Stage → Result (Option Line) Decline
  Line-of text stage = Ok (Some (line_of text (record { stage = stage; moves = sum_of l s; walk = s.walk })))

  said-pair : (a : Result (Option KeyOut) Decline) → s.answer ≡ a → (x : Pair) → said_by s ≡ hands_out x → answer_line l s a ≡ Line-of (pair_line x) Pairs
  unfolding answer_line said_by number_of keys_of len_of value_of pick
  said-pair (Ok (Some k)) f x e =
      let g : hands_out (record { key = take k.len s.walk.cursor.buf; value = k.value }) ≡ hands_out x = rw f at e in
      let y : record { key = take k.len s.walk.cursor.buf; value = k.value } ≡ x = cc in
      ap (λ (z : Pair). Line-of (pair_line z) Pairs) y
  said-pair (Ok None) f x e = let g : none ≡ hands_out x = rw f at e in absurd cc
  said-pair (Err d) f x e =
      let g : declines (decline_number d) ≡ hands_out x = rw (f, ne_eqb (decline_number d) 0 (never-zero d)) at e in
      absurd cc

  said-none : (a : Result (Option KeyOut) Decline) → s.answer ≡ a → said_by s ≡ none → answer_line l s a ≡ Line-of (last_line (sum_of l s)) Done
  unfolding answer_line said_by number_of keys_of len_of value_of pick
  said-none (Ok (Some k)) f e =
      let g : hands_out (record { key = take k.len s.walk.cursor.buf; value = k.value }) ≡ none = rw f at e in absurd cc
  said-none (Ok None) f e = refl
  said-none (Err d) f e =
      let g : declines (decline_number d) ≡ none = rw (f, ne_eqb (decline_number d) 0 (never-zero d)) at e in
      absurd cc

-- A key of at most 256 bytes.
abbrev Short : Pair → Type 0
Short x = length x.key ≤ 256

module _ (image : List ℕ) where
  -- n calls come to a text, none declined, and the first k have bytes
  record Comes (k n : ℕ) (l : Listing) (text : List ℕ) : Type 0 where
    text-is : text_of (lines_of image n l) ≡ text
    numbers_are : line_numbers (lines_of image n l) ≡ replicate n 0
    filled_are : Filled (lines_of image k l)

  -- nothing behind the end
  done : (n m : ℕ) (w : Walk) → Comes 0 n (record { stage = Done; moves = m; walk = w }) []
  unfolding lines_of left_by line_text text_of line_number line_numbers Filled next_line line_at
  done zero m w = record { text-is = refl; numbers_are = refl; filled_are = tt }
  done (suc n) m w = record {
    text-is = (done n m w).text-is;
    numbers_are = ap {B = List ℕ} (λ t. 0 ∷ t) (done n m w).numbers_are;
    filled_are = tt;
  }

  -- a line more in front
  more : (k n : ℕ) (l to : Listing) (text rest : List ℕ) → Fits text → next_line l image ≡ Ok (Some (line_of text to)) → Comes k n to rest
      → Comes (suc k) (suc n) l (text ++ rest)
  unfolding lines_of left_by line_text text_of line_number line_numbers HasBytes Filled line_of
  more k n l to text rest f e c = record {
    text-is = rw e (rw (written-text text f, c.text-is));
    numbers_are = rw e (ap {B = List ℕ} (λ t. 0 ∷ t) c.numbers_are);
    filled_are = rw e (omega (arith, written-len text f, f.some), c.filled_are);
  }

  -- the sum of moves does not wrap
  not_wrapped : (m : ℕ) (w : Walk) → m + (step w image).moves < 2 ^ 64
      → sum_of (record { stage = Pairs; moves = m; walk = w }) (step w image) ≡ m + (step w image).moves
  unfolding sum_of
  not_wrapped m w h = mod-eq_of_lt h

  -- A STEP'S LINE, by what it says
  module _ (m : ℕ) (w : Walk) (h : m + (step w image).moves < 2 ^ 64) where
    next-pair : (x : Pair) → said_by (step w image) ≡ hands_out x → next_line (record { stage = Pairs; moves = m; walk = w }) image
        ≡ Ok (Some (line_of (pair_line x) (record { stage = Pairs; moves = m + (step w image).moves; walk = (step w image).walk })))
    unfolding next_line line_at
    next-pair x e = said-pair _ (step w image) (step w image).answer refl x e ∙ rw (not_wrapped m w h)

    next_last : said_by (step w image) ≡ none → next_line (record { stage = Pairs; moves = m; walk = w }) image
        ≡ Ok (Some (line_of (last_line (m + (step w image).moves)) (record { stage = Done; moves = m + (step w image).moves; walk = (step w image).walk })))
    unfolding next_line line_at
    next_last e = said-none _ (step w image) (step w image).answer refl e ∙ rw (not_wrapped m w h)

  -- What the steps over a row say, to the first none; how many lines they make, and n more.
  ends : List Pair → List Said
  ends [] = none ∷ []
  ends (x ∷ row) = hands_out x ∷ ends row

  count : List Pair → ℕ → ℕ
  count [] n = suc n
  count (x ∷ row) n = suc (count row n)

  -- THE PAIRS AND THE LAST LINE
  pairs_come : (row : List Pair) (m : ℕ) (w : Walk) → All Short row → said (steps w (calls_of image (suc (length row)))) ≡ ends row
      → m + moves_of (steps w (calls_of image (suc (length row)))) < 2 ^ 64 → (n : ℕ)
      → Comes (count row 0) (count row n) (record { stage = Pairs; moves = m; walk = w })
      (pair_lines row ++ last_line (m + moves_of (steps w (calls_of image (suc (length row))))))
  unfolding steps said moves_of calls_of step_as ends count pair_lines
  pairs_come [] m w a e h n =
      let said-none : said_by (step w image) ≡ none = cc in
      let s = (step w image).moves in
      let z : m + (s + 0) ≡ m + s = omega arith in
      rw z (subst (Comes 1 (suc n) (record { stage = Pairs; moves = m; walk = w })) (append-nil (last_line (m + s)))
      (more 0 n _ _ _ _ (last_fits (m + s)) (next_last m w (omega arith) said-none) (done n (m + s) (step w image).walk)))
  pairs_come (x ∷ row) m w a e h n =
      let said-x : said_by (step w image) ≡ hands_out x = cc in
      let said-rest : said (steps (step w image).walk (calls_of image (suc (length row)))) ≡ ends row = cc in
      let s = (step w image).moves in
      let t = moves_of (steps (step w image).walk (calls_of image (suc (length row)))) in
      let z : m + (s + t) ≡ m + s + t = omega arith in
      let ih = pairs_come row (m + s) (step w image).walk a.1 said-rest (omega arith) n in
      rw z
      (subst (Comes (suc (count row 0)) (suc (count row n)) (record { stage = Pairs; moves = m; walk = w }))
      (sym (append_assoc (pair_line x) (pair_lines row) (last_line (m + s + t))))
      (more _ _ _ _ _ _ (pair_fits x a.0) (next-pair m w (omega arith) x said-x) ih))

  count-is : (row : List Pair) (n : ℕ) → count row n ≡ length row + 1 + n
  unfolding count
  count-is [] n = omega arith
  count-is (x ∷ row) n = omega (arith, count-is row n)

  -- what is due is the row, and then none
  due_ends : (row : List Pair) → due (replicate (suc (length row)) true) row ≡ ends row
  unfolding due head_said tail_of ends
  due_ends [] = refl
  due_ends (x ∷ row) = ap {B = List Said} (λ t. hands_out x ∷ t) (due_ends row)

  -- AN ACCEPTED IMAGE
  accepted_come : ((i : ℕ) → get_or image i 0 < 256) → check_number (check image) ≡ 0 → (n : ℕ)
      → Comes (suc (count (listed_pairs image) 0)) (suc (count (listed_pairs image) n)) (begun (First (key_count image)) image)
      (sheet (key_count image) (listed_pairs image) (walk_moves image))
  unfolding listed_pairs row_of walk_moves sheet next_line line_at begun tree_counts
  accepted_come b a n =
      let row = listed_pairs image in
      let w = (place image From [] 0 []).walk in
      let calls = calls_of image (suc (length row)) in
      let o = accepted_obeys image a in
      let taken = is-taken image a From [] 0 [] (omega arith) (omega arith) (omega arith) in
      let d = demand-3 image b a From [] (λ i. omega arith) 0 [] taken calls (own-lent image (suc (length row))) in
      let fit : moves_of (steps w calls) < 2 ^ 64 = omega (arith, rw o.1 at d.total, moves-fit image o.0, o.0.short) in
      let short : All Short row = all-sieve Short (contains 0 []) _ (all-sieve Short (past From []) (live_pairs image) (pairs-short image o.0)) in
      let ih = pairs_come row 0 w short (d.says ∙ ap (λ (t : List Bool). due t row) (own_calls image (suc (length row))) ∙ due_ends row) (omega arith) n in
      let z : 0 + moves_of (steps w calls) ≡ moves_of (steps w (calls_of image (length row + 1))) = rw (add-one (length row)) (zero-add _) in
      subst (Comes (suc (count row 0)) (suc (count row n)) (begun (First (key_count image)) image))
      (sym (append_assoc (first_line (key_count image)) (pair_lines row) (last_line (walk_moves image))))
      (more _ _ _ _ _ _ (first_fits (key_count image)) refl (rw z at ih))

  -- A DECLINED ONE
  declined_come : (d n : ℕ) → Comes 1 (suc n) (begun (Refused d) image) (refused d)
  unfolding next_line line_at begun
  declined_come d n =
      subst (Comes 1 (suc n) (begun (Refused d) image)) (append-nil (refused d))
      (more 0 n _ _ _ _ (refused-fits d) refl (done n 0 (place image From [] 0 []).walk))

  finish : (n : ℕ) (l : Listing) (k m : ℕ) (text : List ℕ) → opened image ≡ l → line_count image ≡ k → listed image ≡ text
      → m ≡ line_count image + n → Comes k m l text → AllLines image n
  finish n l k m text e f g q c = record {
    text = rw (← q, e, g) c.text-is;
    numbers = rw (← q, e) c.numbers_are;
    filled = rw (f, e) c.filled_are;
    few = few-lines image;
  }

-- THE THEOREM, of any image of bytes and any number of calls past its sheet's end.
pub all_lines : (image : List ℕ) → ((i : ℕ) → get_or image i 0 < 256) → (n : ℕ) → AllLines image n
unfolding opened opened_as line_count listed check_number pick
all_lines image b n = go (check image) refl
  where
    row : List Pair
    row = listed_pairs image

    go : (r : Result Counts Decline) → check image ≡ r → AllLines image n
    go (Ok c) e =
        let k : line_count image ≡ suc (count image row 0) = rw e (omega (arith, count-is image row 0)) in
        finish image n _ _ (suc (count image row n)) _ (rw e) k (rw e) (omega (arith, count-is image row n, count-is image row 0))
        (accepted_come image b (rw e) n)
    go (Err d) e =
        let z = ne_eqb (decline_number d) 0 (never-zero d) in
        let k : line_count image ≡ 1 = rw (e, z) in
        finish image n _ _ (suc n) _ (rw e) k (rw (e, z)) (omega arith) (declined_come image (decline_number d) n)
