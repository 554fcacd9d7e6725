-- Stations as the loop passes them, and a whole sheet: one law for each way out of the code that reads it.
use Rattle.std.specs.Prelude.{◌≡◌, ◌&&◌, ◌*◌, ◌-◌, ◌≤◌, Option, None, Some, Result, Ok, Err, ok_or, IsErrAnd}
use Rattle.base.specs.Kit.{refl, ap, sym, ◌∙◌, Bool, true, false, max, List, [], ℕ, suc, arith, length, take, drop, length-append}
use Rattle.base.specs.Pick.{pick}
use Rattle.base.specs.declared.Decline.{Decline}
use Rattle.base.specs.declared.Decline.TheVariants.{SheetForm, SheetOrder}
use Rattle.base.proofs.Count.{left-more}
use Rattle.base.proofs.Declines.{handed_on}
use Rattle.layering.specs.Keys.{Pair}
use Rattle.sheet.specs.Sheet.{hex_key, first_line}
use Rattle.reading.specs.Read.{Got, none, got, next, station, stations, read_head, read_end, body}
use Rattle.reading.specs.Fault.{keys_rise, judged, formed, read_sheet}
use Rattle.reading.specs.Opened.{opened}
use Rattle.reading.specs.CodeViews.{key_at, StationRead, follows, texts_rise, risen}
use Rattle.reading.specs.declared.Line.{Line}
use Rattle.reading.specs.declared.Opened.{Opened}
use Rattle.reading.proofs.Gets.{none-got}
use Rattle.reading.proofs.Sheets.{head-text, stations-text}
use Rattle.reading.proofs.Rising.{texts_rise_lem, risen-more, risen_bad, risen_end}
use Rattle.reading.proofs.Pairs.{line-got, line-none}
use Rattle.reading.proofs.Lines.{text-length, text_double, key-text}

-- A STATION PASSED, at the front of a text: its key's text, and what it adds.
module _ (s buf buf' : List ℕ) (r : Line) (R : StationRead s 0 buf buf' (Some r)) where
  there : station s ≡ got (record { key = key_at s; value = r.value }) (drop r.next s)
  there = line-got s 0 buf buf' r R

  pub text-fits : 2 * r.key_len ≤ length s
  text-fits = omega (arith, R.found.0, (key-text s _ _ there).1, text_double (key_at s))

  long : max (2 * r.key_len) 1 ≡ length (hex_key (key_at s))
  long = rw R.found.0 (text-length (key_at s))

  pub station_passed : (n : ℕ) (t : List ℕ) (ok : Bool) → risen t ok (stations (suc n) s)
      ≡ risen (take (max (2 * r.key_len) 1) s) (ok && follows t (take (max (2 * r.key_len) 1) s)) (stations n (drop r.next s))
  station_passed n t ok =
      let k : take (max (2 * r.key_len) 1) s ≡ hex_key (key_at s) = rw long (key-text s _ _ there).0 in
      rw k (risen-more n s t ok _ _ there)

-- stations by what is seen of them
risen-none : (g : Got (List Pair)) → none ≡ risen [] true g → g ≡ none
unfolding risen
risen-none none h = refl
risen-none (got xs q) h = absurd (none-got h)

risen-got : (g : Got (List Pair)) (ok : Bool) (q : List ℕ) → got ok q ≡ risen [] true g → (xs : List Pair) × (g ≡ got xs q) × (ok ≡ keys_rise xs)
unfolding risen
risen-got none ok q h = absurd (none-got (sym h))
risen-got (got xs r) ok q h =
    let same : got ok q ≡ got (texts_rise [] xs) r = h in
    let n : ok ≡ texts_rise [] xs = cc in
    let m : q ≡ r = cc in
    (xs, ap (got xs) (sym m), n ∙ texts_rise_lem xs)

-- what is not there is a sheet's form that is not kept
pub form_handed : {A B : Type 0} (o : Option A) (d : Decline) (r w : Result B Decline) → o ≡ None → Err d ≡ ok_or o SheetForm
    → IsErrAnd r (λ e. e ≡ d) → Err SheetForm ≡ w → r ≡ w
form_handed {A} o d r w n v h e =
    let z : ◌≡◌ {A = Result A Decline} (Err d) (Err SheetForm) = rw n at v in
    let q : d ≡ SheetForm = cc in
    handed_on r d w h (rw q e)

abbrev Says : List ℕ → Result Opened Decline → Type 0
Says s a = a ≡ opened (read_sheet s)

module _ (s : List ℕ) where
  pub no_head : none ≡ read_head s → Says s (Err SheetForm)
  unfolding read_sheet formed next opened
  no_head H = rw (sym H)

  module _ (n : ℕ) (r : List ℕ) (H : got n r ≡ read_head s) where
    pub no-stations : none ≡ risen [] true (stations n r) → Says s (Err SheetForm)
    unfolding read_sheet formed next body opened
    no-stations g = rw (sym H, risen-none (stations n r) g)

    module _ (ok : Bool) (q : List ℕ) (P : got ok q ≡ risen [] true (stations n r)) where
      passed : (xs : List Pair) × (stations n r ≡ got xs q) × (ok ≡ keys_rise xs)
      passed = risen-got (stations n r) ok q P

      pub no_end : none ≡ read_end q → Says s (Err SheetForm)
      unfolding read_sheet formed next body opened
      no_end M = rw (sym H, passed.1, sym M)

      module _ (m : ℕ) (z : List ℕ) (M : got m z ≡ read_end q) where
        whole : read_sheet s ≡ judged (record { pairs = passed.0; figure = m })
        unfolding read_sheet formed next body
        whole = rw (sym H, passed.1, sym M)

        pub not_rising : ok ≡ false → Says s (Err SheetOrder)
        unfolding judged opened pick
        not_rising f = rw (whole, sym passed.2 ∙ f)

        pub all-good : ok ≡ true → Says s (Ok (record { count = n; line = length s - length r }))
        unfolding judged opened pick
        all-good t =
            let c : n ≡ length passed.0 = (stations-text n r passed.0 q passed.1).2 in
            let l : length (first_line n) ≡ length s - length r = omega (arith, ap length (head-text s (sym H)).0, length-append (first_line n) r) in
            rw (whole, sym passed.2 ∙ t, ← c, l)

    pub head-inside : length r ≤ length s
    head-inside = omega (arith, ap length (head-text s (sym H)).0, length-append (first_line n) r)

-- What the readers of stations and of a sheet rest on.
pub ruleset station_rules = (line-none, risen_bad, risen_end, left-more)

pub ruleset sheets = (form_handed, no_head, no-stations, no_end, not_rising, all-good, head-inside)
