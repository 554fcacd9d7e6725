-- What the check's tests of a slot say: its numbers 6, 7 and 8.
use Rattle.std.specs.Prelude.{◌&&◌, ◌||◌, ◌⊎◌, ◌≡◌, ◌+◌, ◌*◌, ◌%◌, ◌-◌, ◌^◌, ◌≤◌, ◌<◌, ◌/◌}
use Rattle.base.specs.Kit.{true, inl, inr, ⊎_elim, refl, ap, ℕ, zero, suc, arith, leb, ltb, eqb, leb-true, le-leb, lt-leb, eq-eqb, ne_eqb, pow-succ', one-le-pow, mod-one, sub-zero, suc-sub-suc, mod-mul, get_or}
use Rattle.base.specs.Pick.{pick}
use Rattle.base.proofs.Choice.{by_test}
use Rattle.key.specs.Ikey.{ikey_bytes, digits}
use Rattle.layering.specs.Tree.{Fields}
use Rattle.layering.specs.Accepted.{EndsHere, HasSuffix, Before}
use Rattle.verify.specs.Check.{listed, fits, before, in_range}
use Rattle.std.specs.Bool.{Decides}
use Rattle.std.proofs.lemmas.Bool.Decides.{Decides-and, Decides-eqb, Decides-like, Decides-ltb, Decides-or}
use Rattle.verify.proofs.Going.{says-leb}

-- AN IKEY is zero-filled behind its first k bytes exactly where it is a multiple of 256 ^ (8 - k): by recursion on the number of bytes,
-- one byte split off the remainder at a time.
-- the highest of n + 1 bytes, and the rest
top : (n x : ℕ) → x % 256 ^ suc n ≡ x / 256 ^ n % 256 * 256 ^ n + x % 256 ^ n
top n x = rw (pow-succ' 256 n) (mod-mul x (omega arith) (one-le-pow n 256 (omega arith)))

pub zero-bytes : (n k x : ℕ) → x % 256 ^ (n - k) ≡ 0 → (i : ℕ) → k ≤ i → get_or (digits n x) i 0 ≡ 0
unfolding digits
zero-bytes zero k x e i h = refl
zero-bytes (suc n) zero x e zero h = let l : x % 256 ^ suc n ≡ 0 = rw sub-zero at e in high (x / 256 ^ n % 256) (omega (arith, top n x))
  where
    high : (a : ℕ) → a * 256 ^ n ≡ 0 → a ≡ 0
    high zero q = refl
    high (suc a) q = absurd (omega (arith, one-le-pow n 256 (omega arith)))
zero-bytes (suc n) zero x e (suc i) h =
    let l : x % 256 ^ suc n ≡ 0 = rw sub-zero at e in zero-bytes n zero x (rw sub-zero (omega (arith, top n x))) i (omega arith)
zero-bytes (suc n) (suc k) x e zero h = absurd (omega arith)
zero-bytes (suc n) (suc k) x e (suc i) h = zero-bytes n k x (rw suc-sub-suc at e) i (omega arith)

pub bytes-zero : (n k x : ℕ) → ((i : ℕ) → k ≤ i → get_or (digits n x) i 0 ≡ 0) → x % 256 ^ (n - k) ≡ 0
unfolding digits
bytes-zero zero k x h = rw (let e : 0 - k ≡ 0 = omega arith in e) (mod-one x)
bytes-zero (suc n) zero x h =
    let l : x % 256 ^ n ≡ 0 = rw sub-zero at (bytes-zero n zero x (λ i b. h (suc i) (omega arith))) in
    rw sub-zero (omega (arith, top n x, ap (λ (a : ℕ). a * 256 ^ n) (h 0 (omega arith))))
bytes-zero (suc n) (suc k) x h = rw suc-sub-suc (bytes-zero n k x (λ i b. h (suc i) (omega arith)))

-- SLOTS
module _ (depth : ℕ) (s : Fields) where
  -- a key that ends here
  says-short : Decides ((eqb depth 0 || ltb 0 s.keylenx) && eqb (s.ikey % 256 ^ (8 - s.keylenx)) 0)
      (((depth ≡ 0) ⊎ (0 < s.keylenx)) × (s.ikey % 256 ^ (8 - s.keylenx) ≡ 0))
  says-short = Decides-and _ _ (Decides-or _ _ (Decides-eqb depth 0) (Decides-ltb 0 s.keylenx)) (Decides-eqb (s.ikey % 256 ^ (8 - s.keylenx)) 0)

  says-suffix : Decides (ltb 0 s.len && leb (8 * depth + 8 + s.len) 256) ((0 < s.len) × (8 * depth + 8 + s.len ≤ 256))
  says-suffix = Decides-and _ _ (Decides-ltb 0 s.len) (says-leb (8 * depth + 8 + s.len) 256)

  -- a value slot's numbers 6 and 7
  pub value-kind : s.keylenx < 128 → (listed depth s ≡ true) × (fits depth s ≡ true) → EndsHere depth s ⊎ HasSuffix depth s
  unfolding listed fits pick ikey_bytes
  value-kind small h =
      by_test (leb s.keylenx 8) (λ e.
      let a = says-short.0 (rw e at h.0) in
      let some : 0 < depth → 0 < s.keylenx = λ d. ⊎_elim (λ z. absurd (omega arith)) (λ q. q) a.0 in
      inl (record { short = leb-true _ _ e; some = some; filled = zero-bytes 8 s.keylenx s.ikey a.1 }))
      (λ e. ⊎_elim
      (λ q. let a = says-suffix.0 (rw (eq-eqb s.keylenx 64 q) at h.1) in inr (record { long = q; some = a.0; fits = a.1 }))
      (λ q. absurd (omega arith)) ((Decides-or _ _ (Decides-eqb s.keylenx 64) (says-leb 128 s.keylenx)).0 (rw e at h.0)))

  pub kind-value : EndsHere depth s ⊎ HasSuffix depth s → (listed depth s ≡ true) × (fits depth s ≡ true)
  unfolding listed fits pick ikey_bytes
  kind-value (inl k) = (
    rw (le-leb s.keylenx 8 k.short) (says-short.1 (zero-or-some depth refl, bytes-zero 8 s.keylenx s.ikey k.filled)),
    rw (ne_eqb s.keylenx 64 (λ e. omega (arith, k.short)), lt-leb 128 s.keylenx (omega (arith, k.short))) refl,
  )
    where
      zero-or-some : (d : ℕ) → depth ≡ d → (depth ≡ 0) ⊎ (0 < s.keylenx)
      zero-or-some zero e = inl e
      zero-or-some (suc d) e = inr (k.some (omega arith))
  kind-value (inr k) = (
    rw (lt-leb s.keylenx 8 (omega (arith, k.long)), eq-eqb s.keylenx 64 k.long) refl,
    rw (eq-eqb s.keylenx 64 k.long) (says-suffix.1 (k.some, k.fits)),
  )

  -- a layer slot's
  pub layer-kind : 128 ≤ s.keylenx → fits depth s ≡ true → depth < 31
  unfolding fits pick
  layer-kind big h = (Decides-ltb depth 31).0 (rw (ne_eqb s.keylenx 64 (λ e. omega arith), le-leb 128 s.keylenx big) at h)

  pub kind-layer : 128 ≤ s.keylenx → depth < 31 → (listed depth s ≡ true) × (fits depth s ≡ true)
  unfolding listed fits pick
  kind-layer big h = (
    rw (lt-leb s.keylenx 8 (omega arith), ne_eqb s.keylenx 64 (λ e. omega arith), le-leb 128 s.keylenx big) refl,
    rw (ne_eqb s.keylenx 64 (λ e. omega arith), le-leb 128 s.keylenx big) ((Decides-ltb depth 31).1 h),
  )

-- number 8
pub says-before : (s t : Fields) → Decides (before s t) (Before s t)
unfolding before Before
says-before s t =
    Decides-or _ _ (Decides-ltb s.ikey t.ikey)
    (Decides-like _ (λ h. (h.0, h.1.0, h.1.1)) (λ h. (h.0, (h.1, h.2)))
    (Decides-and _ _ (Decides-eqb s.ikey t.ikey) (Decides-and _ _ (Decides-ltb s.keylenx t.keylenx) (Decides-ltb s.keylenx 64))))

pub says_range : (lo hi : ℕ) (s : Fields) → Decides (in_range lo hi s) ((lo ≤ s.ikey) × (s.ikey < hi))
unfolding in_range
says_range lo hi s = Decides-and _ _ (says-leb lo s.ikey) (Decides-ltb s.ikey hi)
