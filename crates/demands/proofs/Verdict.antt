-- What Start makes of a slot of a leaf in order, whatever the cursor's length. Proved: a value slot is passed over where
-- its key is not past the start, and stood at where it is; a layer slot is passed over, stood at or entered by where its
-- eight bytes lie. y is what the cursor has left in the layer.
use Rattle.std.specs.Prelude.{◌≡◌, ◌++◌, ◌⊎◌, ◌+◌, ◌*◌, ◌≤◌, ◌<◌, Result, Ok, Err}
use Rattle.base.specs.Kit.{ap, sym, ◌∙◌, List, true, false, inl, inr, ℕ, arith, leb, ltb, eqb, length, drop, drop_at, le-leb, lt-leb, le-ltb, lt-ltb, eq-eqb, ltb-true, ltb-false}
use Rattle.base.specs.Pick.{pick}
use Rattle.base.proofs.Choice.{pick_ind}
use Rattle.key.specs.Order.{byte_order, then}
use Rattle.key.specs.Ikey.{ikey_of, ikey_bytes}
use Rattle.demands.specs.Types.{Ordering, OrderingEqual as Equal, CursorPlace, StartMode, Above, From, Verdict, VerdictPass as Pass, Stand, VerdictEnter as Enter, Decline, Unreadable}
use Rattle.key.proofs.Order.{Cmp, is_lt, is_eq, is_gt, cmp, CmpB, b_lt, b-eq, b_gt, cmpb, lex_cmp, lex_gt, cmp-refl}
use Rattle.key.proofs.Bytes.{Bytes}
use Rattle.key.proofs.Ikey.{rank, rank_lt, rank-eq-short, rank-eq-long, ikey_bytes-length}
use Rattle.cursor.specs.CursorKey.{has_suffix, suffix_of}
use Rattle.layering.specs.Tree.{Fields, fields_at}
use Rattle.layering.specs.Keys.{own_bytes}
use Rattle.layering.proofs.Asked.{past_greater, past_less}
use Rattle.layering.specs.Sieve.{is_less, is_not_greater, is_above, is_from, past}
use Rattle.layering.specs.Accepted.{EndsHere, HasSuffix}
use Rattle.layering.proofs.Part.{slot_rank, own-bytes, own_rank}
use Rattle.layering.proofs.Real.{Real}
use Rattle.search.specs.Helper.{slot_in, by_order, suffix_bytes}
use Rattle.start.specs.Start.{at_equal, short_verdict, suffix_verdict, long_verdict, verdict}
use Rattle.demands.proofs.Leaf.{used_in, ikey_in, keylenx_in, LeafOk}

-- A START by byte order.
module _ (y a : List ℕ) where
  -- what a start's verdict on a value slot with the key a says
  pub data Judged (mode : StartMode) : Result Verdict Decline → Type 0 where
    passes : past mode y a ≡ false → Judged mode (Ok Pass)
    stands : past mode y a ≡ true → rank y ≤ rank a → Judged mode (Ok Stand)

  at_equal_lem : (mode : StartMode) → byte_order y a ≡ Equal → rank y ≤ rank a → Judged mode (Ok (at_equal mode))
  unfolding at_equal past is_above is_from is_less is_not_greater
  at_equal_lem Above e h = passes (rw e)
  at_equal_lem From e h = stands (rw e) h

  by-order : (mode : StartMode) (u v : List ℕ) {o : Ordering} → CmpB u v o → byte_order y a ≡ byte_order v u
      → rank y ≤ rank a → Judged mode (by_order o (Ok Pass) (Ok (at_equal mode)) (Ok Stand))
  unfolding by_order
  by-order mode u v (b_lt l) e h = passes (past_greater y a mode (e ∙ lex_gt l))
  by-order mode u v (b-eq d) e h = at_equal_lem mode (e ∙ ap (byte_order v) d ∙ cmp-refl v) h
  by-order mode u v (b_gt l) e h = stands (past_less y a mode (e ∙ lex_cmp l)) h

  -- ranks that differ decide
  module _ (by : Bytes y) (ba : Bytes a) where
    pub past_low : (mode : StartMode) → rank a < rank y → past mode y a ≡ false
    past_low mode h = past_greater y a mode (lex_gt (rank_lt a y ba by h))

    pub past_high : (mode : StartMode) → rank y < rank a → past mode y a ≡ true
    past_high mode h = past_less y a mode (lex_cmp (rank_lt y a by ba h))

    low : (mode : StartMode) → rank a < rank y → Judged mode (Ok Pass)
    low mode h = passes (past_low mode h)

    high : (mode : StartMode) → rank y < rank a → Judged mode (Ok Stand)
    high mode h = stands (past_high mode h) (omega arith)

-- The whole cursor has n bytes: mode above starts with Start only past eight.
unfoldable pub Wide : StartMode → ℕ → Type 0
Wide Above n = 8 < n
Wide From n = Unit {0}

-- What a start's verdict on a layer slot of the ikey x says.
pub data SaysSub (y : List ℕ) (x : ℕ) : Result Verdict Decline → Type 0 where
  passes-sub : x * 16 + 9 < rank y → SaysSub y x (Ok Pass)
  stands-sub : rank y < x * 16 + 9 → SaysSub y x (Ok Stand)
  enters-sub : 8 < length y → x ≡ ikey_of y → SaysSub y x (Ok Enter)

module _ (image : List ℕ) (l : ℕ) (ok : LeafOk image l) (k : CursorPlace) (buf y : List ℕ) (by : Bytes y)
    (ek : k.ikey ≡ ikey_of y) (el : k.len ≡ length y) (rest : 8 < length y → suffix_of k buf ≡ drop 8 y)
    (mode : StartMode) (wide : Wide mode (k.offset + k.len)) (i : ℕ) (used : i < used_in image l) where
  -- A VALUE SLOT
  module _ (depth : ℕ) (kind : EndsHere depth (fields_at image l i) ⊎ HasSuffix depth (fields_at image l i))
      (real : Real (fields_at image l i)) (eo : k.offset ≡ 8 * depth) where
    a : List ℕ
    a = own_bytes (fields_at image l i)

    ba : Bytes a
    unfolding a
    ba = own-bytes (fields_at image l i) kind real.bytes

    ra : rank a ≡ slot_rank (fields_at image l i)
    unfolding a
    ra = own_rank (fields_at image l i) kind real.small real.whole

    -- the cursor's own key
    same : (mode : StartMode) → ikey_in image l i ≡ k.ikey → keylenx_in image l i ≡ k.len → length y ≤ 8
        → Judged y a mode (Ok (at_equal mode))
    unfolding slot_rank rank
    same mode q d h =
        let e : y ≡ a = rank-eq-short y a by ba (omega (arith, ra)) h in
        at_equal_lem y a mode (ap (byte_order y) (sym e) ∙ cmp-refl y) (omega (arith, ra))

    -- a suffix against the cursor's rest
    by-suffix : 8 < length y → HasSuffix depth (fields_at image l i) → ikey_in image l i ≡ k.ikey
        → Judged y a mode (suffix_verdict mode image l k buf (slot_in image l i))
    unfolding suffix_verdict suffix_bytes fields_at slot_rank rank a own_bytes pick
    by-suffix h t q =
        let f : Fields = fields_at image l i in
        let own : a ≡ ikey_bytes f.ikey ++ f.suffix = rw (eq-eqb f.keylenx 64 t.long) in
        let tail : drop 8 a ≡ f.suffix
        = ap (drop 8) own ∙ drop_at (ikey_bytes f.ikey) f.suffix 8 (ikey_bytes-length f.ikey) in
        rw (
          ok.suffixes i used t.long,
          le-ltb 256 (k.offset + 8 + f.len) (omega (arith, t.fits)),
          rest h,
        )
        (by-order y a mode f.suffix (drop 8 y) (cmpb f.suffix (drop 8 y))
        (rank-eq-long y a by ba (omega (arith, ra, t.long)) h ∙ ap (byte_order (drop 8 y)) tail)
        (omega (arith, ra, t.long)))

    -- with at most eight bytes left
    val-short : length y ≤ 8 → Judged y a mode (Ok (short_verdict mode k (ikey_in image l i) (keylenx_in image l i)))
    unfolding short_verdict by_order then slot_rank rank Wide pick at_equal
    val-short h = go mode wide (cmp (ikey_in image l i) k.ikey) (cmp (keylenx_in image l i) k.len)
      where
        go : (mode : StartMode) → Wide mode (k.offset + k.len) → {o u : Ordering}
            → Cmp (ikey_in image l i) k.ikey o → Cmp (keylenx_in image l i) k.len u
            → Judged y a mode (Ok (by_order (then o u) Pass (pick (ltb 8 (k.offset + k.len)) (at_equal mode) Stand) Stand))
        go mode w (is_lt q) d = low y a by ba mode (omega (arith, ra))
        go mode w (is_gt q) d = high y a by ba mode (omega (arith, ra))
        go mode w (is_eq q) (is_lt d) = low y a by ba mode (omega (arith, ra))
        go mode w (is_eq q) (is_gt d) = high y a by ba mode (omega (arith, ra))
        go Above w (is_eq q) (is_eq d) = rw (lt-ltb 8 (k.offset + k.len) w) (same Above q d h)
        go From w (is_eq q) (is_eq d) =
            pick_ind (λ (v : Verdict). Judged y a From (Ok v)) (ltb 8 (k.offset + k.len)) (λ t. same From q d h) (λ t. same From q d h)

    -- with more left
    val-long : 8 < length y → Judged y a mode (long_verdict mode image l k buf (slot_in image l i))
    unfolding long_verdict by_order slot_rank rank fields_at pick
    val-long h = go kind (cmp (ikey_in image l i) k.ikey)
      where
        go : EndsHere depth (fields_at image l i) ⊎ HasSuffix depth (fields_at image l i) → {o : Ordering}
            → Cmp (ikey_in image l i) k.ikey o
            → Judged y a mode
            (by_order o (Ok Pass)
            (pick (leb (keylenx_in image l i) 8) (Ok Pass)
            (pick (leb 128 (keylenx_in image l i)) (Ok Enter)
            (pick (eqb (keylenx_in image l i) 64) (suffix_verdict mode image l k buf (slot_in image l i)) (Err Unreadable))))
            (Ok Stand))
        go t (is_lt q) = low y a by ba mode (omega (arith, ra))
        go t (is_gt q) = high y a by ba mode (omega (arith, ra))
        go (inl t) (is_eq q) =
            rw (le-leb (keylenx_in image l i) 8 t.short) (low y a by ba mode (omega (arith, ra, t.short)))
        go (inr t) (is_eq q) =
            rw (
              lt-leb (keylenx_in image l i) 8 (omega (arith, t.long)),
              lt-leb 128 (keylenx_in image l i) (omega (arith, t.long)),
              eq-eqb (keylenx_in image l i) 64 t.long,
            )
            (by-suffix h t q)

    pub val-says : Judged y (own_bytes (fields_at image l i)) mode (verdict mode image l k buf (slot_in image l i))
    unfolding verdict fields_at has_suffix a
    val-says =
        pick_ind (Judged y a mode) (has_suffix k) (λ t. val-long (omega (arith, ltb-true 8 k.len t)))
        (λ t. val-short (omega (arith, ltb-false 8 k.len t)))

  -- A LAYER SLOT
  module _ (layer : 128 ≤ keylenx_in image l i) where
    sub-short : length y ≤ 8 → SaysSub y (ikey_in image l i) (Ok (short_verdict mode k (ikey_in image l i) (keylenx_in image l i)))
    unfolding short_verdict by_order then rank
    sub-short h = go (cmp (ikey_in image l i) k.ikey) (cmp (keylenx_in image l i) k.len)
      where
        go : {o u : Ordering} → Cmp (ikey_in image l i) k.ikey o → Cmp (keylenx_in image l i) k.len u
            → SaysSub y (ikey_in image l i)
            (Ok (by_order (then o u) Pass (pick (ltb 8 (k.offset + k.len)) (at_equal mode) Stand) Stand))
        go (is_lt q) d = passes-sub (omega arith)
        go (is_gt q) d = stands-sub (omega arith)
        go (is_eq q) (is_lt d) = absurd (omega arith)
        go (is_eq q) (is_gt d) = stands-sub (omega arith)
        go (is_eq q) (is_eq d) = absurd (omega arith)

    sub-long : 8 < length y → SaysSub y (ikey_in image l i) (long_verdict mode image l k buf (slot_in image l i))
    unfolding long_verdict by_order rank fields_at pick
    sub-long h = go (cmp (ikey_in image l i) k.ikey)
      where
        go : {o : Ordering} → Cmp (ikey_in image l i) k.ikey o
            → SaysSub y (ikey_in image l i)
            (by_order o (Ok Pass)
            (pick (leb (keylenx_in image l i) 8) (Ok Pass)
            (pick (leb 128 (keylenx_in image l i)) (Ok Enter)
            (pick (eqb (keylenx_in image l i) 64) (suffix_verdict mode image l k buf (slot_in image l i)) (Err Unreadable))))
            (Ok Stand))
        go (is_lt q) = passes-sub (omega arith)
        go (is_gt q) = stands-sub (omega arith)
        go (is_eq q) =
            rw (lt-leb (keylenx_in image l i) 8 (omega arith), le-leb 128 (keylenx_in image l i) layer)
            (enters-sub h (q ∙ ek))

    pub sub-says : SaysSub y (ikey_in image l i) (verdict mode image l k buf (slot_in image l i))
    unfolding verdict fields_at has_suffix
    sub-says =
        pick_ind (SaysSub y (ikey_in image l i)) (has_suffix k) (λ t. sub-long (omega (arith, ltb-true 8 k.len t)))
        (λ t. sub-short (omega (arith, ltb-false 8 k.len t)))
