-- Laws of plain byte order: `cmp` and `cmpb` say what each answer of `order` and `byte_order` means, and `Lex`, the
-- relation that proofs take apart, is a strict order that `byte_order` decides.
use Rattle.std.specs.Prelude.{◌≡◌, ◌∷◌, ◌++◌, ◌≤◌, ◌<◌}
use Rattle.std.specs.Ordering.{nat_cmp}
use Rattle.std.proofs.lemmas.Bool.Decides.{nat_tests}
use Rattle.base.specs.Kit.{refl, sym, ◌∙◌, subst, List, [], ℕ, arith, ltb, ltb-true, ltb-false}
use Rattle.base.specs.Pick.{pick}
use Rattle.base.proofs.Choice.{pick_ind}
use Rattle.base.proofs.Tests.{tests}
use Rattle.key.specs.Order.{order, then, byte_order}
use Rattle.std.specs.declared.cmp.Ordering.{Ordering}
use Rattle.std.specs.declared.cmp.Ordering.TheVariants.{Less, Equal, Greater}

-- The three answers on numbers, with what each says.
pub data Cmp (a b : ℕ) : Ordering → Type 0 where
  is_lt : a < b → Cmp a b Less
  is_eq : a ≡ b → Cmp a b Equal
  is_gt : b < a → Cmp a b Greater

pub cmp : (a b : ℕ) → Cmp a b (order a b)
unfolding order
cmp a b =
    pick_ind (Cmp a b) (ltb a b) (λ e. is_lt (ltb-true a b e))
    (λ e. pick_ind (Cmp a b) (ltb b a) (λ f. is_gt (ltb-true b a f)) (λ f. is_eq (omega (arith, ltb-false a b e, ltb-false b a f))))

pub order_less : (a b : ℕ) → a < b → order a b ≡ Less
unfolding order pick
order_less a b h = search tests

pub order_greater : (a b : ℕ) → b < a → order a b ≡ Greater
unfolding order pick
order_greater a b h = let g : b ≤ a = omega arith in search tests

pub order_equal : (a b : ℕ) → a ≤ b → b ≤ a → order a b ≡ Equal
unfolding order pick
order_equal a b h g = search tests

order-refl : (a : ℕ) → order a a ≡ Equal
order-refl a = order_equal a a (omega arith) (omega arith)

-- s stands before t in plain byte order.
pub data Lex : List ℕ → List ℕ → Type 0 where
  nil-lt : {b : ℕ} {t : List ℕ} → Lex [] (b ∷ t)
  head-lt : {a b : ℕ} {s t : List ℕ} → a < b → Lex (a ∷ s) (b ∷ t)
  tail-lt : {a b : ℕ} {s t : List ℕ} → a ≡ b → Lex s t → Lex (a ∷ s) (b ∷ t)

pub lex_trans : {r s t : List ℕ} → Lex r s → Lex s t → Lex r t
lex_trans nil-lt (head-lt h) = nil-lt
lex_trans nil-lt (tail-lt e h) = nil-lt
lex_trans (head-lt {a = x} h) (head-lt {b = z} k) = head-lt {a = x} {b = z} (omega arith)
lex_trans (head-lt {a = x} h) (tail-lt {b = z} e k) = head-lt {a = x} {b = z} (omega arith)
lex_trans (tail-lt {a = x} e h) (head-lt {b = z} k) = head-lt {a = x} {b = z} (omega arith)
lex_trans (tail-lt e h) (tail-lt d k) = tail-lt (e ∙ d) (lex_trans h k)

pub lex_prefix : (p : List ℕ) {a b : List ℕ} → Lex a b → Lex (p ++ a) (p ++ b)
lex_prefix [] h = h
lex_prefix (x ∷ p) h = tail-lt refl (lex_prefix p h)

-- The three answers on byte strings, with what each says: the order is total, and `byte_order` decides it.
pub data CmpB (s t : List ℕ) : Ordering → Type 0 where
  b_lt : Lex s t → CmpB s t Less
  b-eq : s ≡ t → CmpB s t Equal
  b_gt : Lex t s → CmpB s t Greater

cmpb-step : {a b : ℕ} {s t : List ℕ} {o q : Ordering} → Cmp a b o → CmpB s t q → CmpB (a ∷ s) (b ∷ t) (then o q)
unfolding then
cmpb-step (is_lt h) q = b_lt (head-lt h)
cmpb-step (is_gt h) q = b_gt (head-lt h)
cmpb-step (is_eq h) (b_lt k) = b_lt (tail-lt h k)
cmpb-step (is_eq h) (b-eq k) = b-eq (cc)
cmpb-step (is_eq h) (b_gt k) = b_gt (tail-lt (sym h) k)

pub cmpb : (s t : List ℕ) → CmpB s t (byte_order s t)
unfolding byte_order
cmpb [] [] = b-eq refl
cmpb [] (b ∷ t) = b_lt nil-lt
cmpb (a ∷ s) [] = b_gt nil-lt
cmpb (a ∷ s) (b ∷ t) = cmpb-step (cmp a b) (cmpb s t)

-- The other way: what holds of the two fixes the answer.
pub lex_cmp : {s t : List ℕ} → Lex s t → byte_order s t ≡ Less
unfolding byte_order then
lex_cmp nil-lt = refl
lex_cmp (head-lt h) = rw (order_less _ _ h)
lex_cmp (tail-lt {b = b} e h) = rw (e, order-refl b) (lex_cmp h)

pub lex_gt : {s t : List ℕ} → Lex t s → byte_order s t ≡ Greater
unfolding byte_order then
lex_gt nil-lt = refl
lex_gt (head-lt h) = rw (order_greater _ _ h)
lex_gt (tail-lt {b = b} e h) = rw (e, order-refl b) (lex_gt h)

pub cmp-refl : (s : List ℕ) → byte_order s s ≡ Equal
unfolding byte_order then
cmp-refl [] = refl
cmp-refl (a ∷ s) = rw (order-refl a) (cmp-refl s)

-- What an answer says, where it is known by an equation.
pub cmp_less : (s t : List ℕ) → byte_order s t ≡ Less → Lex s t
cmp_less s t e = go (subst (CmpB s t) e (cmpb s t))
  where
    go : CmpB s t Less → Lex s t
    go (b_lt k) = k

-- A common front does not count.
pub cmp_prefix : (p a b : List ℕ) → byte_order (p ++ a) (p ++ b) ≡ byte_order a b
unfolding byte_order then
cmp_prefix [] a b = refl
cmp_prefix (x ∷ p) a b = rw (order-refl x, cmp_prefix p a b)

-- std's comparison of two numbers
pub cmp-order : (a b : ℕ) → nat_cmp a b ≡ order a b
unfolding order pick
cmp-order a b = grind (arith, nat_tests)
