-- All that the definitions and proofs take from the kit's libraries, under one roof: a file names what it uses of it in one line.
pub use Rattle.std.proofs.Common.{◌∙◌, ap, ap₂, subst, sym, subst₂, true≢false, inl, inr, ⊎_elim, append_assoc, append-nil, map-id, add-mul, add-zero, div-add-mod', div-le_self, div-one, eq-or-lt_of_le, le_refl, mod-eq_of_lt, mul_assoc, mul_comm, mul-le-mul_right, mul-suc, mul-zero, one-mul, pow-suc, suc-add, suc-mul, zero-add, add-one, sub-one, arith, pow-add, drop_of_length-le, length-append, length-drop, length-set, length-take, take-append-drop, drop_at, drop-cons, drop-drop, ext_get_or, get_or-append-add, get_or-drop, get_or-set_other, get_or-set_same, get_or-take, length-take-le, take-add, take_all, take_at, take-take, eq-eqb, eqb-true, le-leb, le-ltb, leb-false, leb-true, lt-ltb, ltb-false, ltb-true, ne_eqb, rules}
pub use Rattle.std.specs.Prelude.{◌≡◌, refl, Bool, ◌&&◌, ◌||◌, false, not, true, ◌≢◌, ◌⊎◌, List, [], ◌++◌, ◌∷◌, map, ◌%◌, ◌*◌, ◌+◌, ◌-◌, ◌/◌, ◌<◌, ◌^◌, ◌≤◌, max, min, suc, zero, ℕ, T, eqb, leb, ltb, drop, get_or, length, replicate, set, take}
pub use Rattle.std.proofs.Math.Bool.{not-not as Bool·not-not, and_assoc, and-eq-true_iff, and-false, and-true}
pub use Rattle.std.proofs.lemmas.Bool.{false≢true, eqb-false, lt-leb, not-false, not-true}
pub use Rattle.std.proofs.lemmas.List.{map-append, length-map, length-replicate, drop-append-le, set_at, set_split}
unfoldable pub use mathlib.Core.List.{flatten}
pub use Rattle.std.proofs.Math.Option.{Option, none, some}
pub use Rattle.std.proofs.Math.Nat.{div-div-eq-div-mul, div-eq_of_lt, div-zero, mod-one, mul-add-div_right, one-le-pow, pow-le-pow_right, pow-succ', sub-zero, suc-sub-suc, zero-div, zero-min, zero-sub}
pub use Rattle.std.proofs.Math.Decide.{dec_le, dec_lt}
pub use Rattle.std.proofs.Math.Arith.{mod-mul}
pub use Rattle.std.proofs.Math.ListN.{get_or-append as List·getD-append, get_or-eq_default as List·getD-eq-default}
pub use Rattle.std.proofs.Math.Seq.{append_snoc, drop-append-add, drop-length, drop-nil, paste, paste-zero, take-append-add, take-append_seam, take-length}
pub use Rattle.std.proofs.lemmas.List.Edits.{drop-paste, length-paste, sets, sets-eq, take-paste}
pub use mir.Val.{bool_byte}
