-- The names of the libraries and of this crate that nearly every proof uses, passed on so that a proof brings them by one line. A line for each module.
pub use Prim.Native.Nat.{◌%◌, ◌*◌, ◌+◌, ◌-◌, ◌/◌, ◌<◌, ◌^◌, ◌≤◌, min, suc, suc-le-suc, zero, zero-le, ℕ}
pub use native.Mathlib.Omega.{arith}
pub use native.Mathlib.Nat.{add-suc, add-zero, div-add-mod', div-eq_of_eq-mul_left, div-eq_of_lt-le, div-le_self, div-lt_iff_lt-mul, div-one}
pub use native.Mathlib.Nat.{eq_of_mul-eq-mul_right, eq-or-lt_of_le, le-div_iff_mul-le, le_of_suc-le-suc, le_refl, lt_of_mul-lt-mul_right, mod-eq_of_lt}
pub use native.Mathlib.Nat.{mod-lt, mod-mod, mod-one, mul_comm, mul-div_cancel, mul-le-mul, mul-le-mul_left, mul-le-mul_right, mul-mod_left, mul-sub}
pub use native.Mathlib.Nat.{mul-suc, mul-zero, not-suc-le-zero, one-mul, pos_of_ne-zero, sub-zero, suc-add, suc-mul, zero-add, zero-div, zero-mod, zero-mul}
pub use native.Mathlib.Numerals.{add-one, sub-one, unary_clauses}
pub use mathlib.Core.Bool.{Bool, ◌&&◌, ◌||◌, and_assoc, and_comm, and-false, and-true, cond, false, false≢true, not, true, true≢false}
pub use mathlib.Core.List.Memᴰ.{append_cases as List·Memᴰ·append-cases}
pub use mathlib.Core.List.Memᴰ.{eq_of_singleton as List·Memᴰ·eq-of-singleton}
pub use mathlib.Core.List.Memᴰ.{head as List·Memᴰ·head}
pub use mathlib.Core.List.Memᴰ.{not-nil as List·Memᴰ·not-nil}
pub use mathlib.Core.List.{List, Memᴰ as List-as-Memᴰ}
pub use mathlib.Core.List.Memᴰ.{append_left as Memᴰ·append-left}
pub use mathlib.Core.List.Memᴰ.{append_right as Memᴰ·append-right}
pub use mathlib.Core.List.Memᴰ.{map as Memᴰ·map}
pub use mathlib.Core.List.Memᴰ.{of_map as Memᴰ·of-map}
pub use mathlib.Core.List.Memᴰ.{tail as List·Memᴰ·tail}
pub use mathlib.Core.List.{[], ◌++◌, ◌∷◌, append_assoc, append-nil}
pub use mathlib.Core.List.{head-eq_of_cons-eq, map, map-append, reverse, reverse-append, reverse-reverse, reverse_aux, tail-eq_of_cons-eq}
pub use mathlib.Core.Logic.{◌↔◌, ◌≢◌, ◌⊎◌, inl, inr, ⊎_elim}
pub use mathlib.Core.Option.{Option, none-ne-some as Option·none-ne-some, some-injective as Option·some-injective, some-ne-none as Option·some-ne-none, none, some}
pub use mathlib.Core.Path.{◌∙◌, ◌≡◌, ap, ap₂, fun_ext, refl, subst, sym}
pub use lib.Dec.{T, eqb, eqb-suc-suc as eqb·suc-suc, eqb-zero-suc as eqb·zero-suc, leb, lit<, ltb}
pub use lib.ListN.{get_or-eq_default as List·getD-eq-default, drop, drop_of_length-le, get_or, length, length-append, length-drop}
pub use lib.ListN.{length-map, length-reverse, length-set, length-take, replicate, set, take, take-append-drop}
pub use lib.Seq.{drop-append-le, drop_at, drop-cons, drop-drop, drop-length, drop-paste, drop-set-lt, get_or-drop, get_or-set_other, get_or-set_same}
pub use lib.Seq.{get_or-take, length-paste, length-sets, length-take-le, paste, paste-suc, paste-zero, set_comm, set-get_or, set_out, set-set, set_split}
pub use lib.Seq.{sets, sets-eq, take_all, take-append-le, take-append_seam, take-length, take-nil, take-paste, take-suc, take-suc-set, take-take}
pub use borrow.Author.Rules.{rules}
pub use borrow.Author.Tests.{eq-eqb, eqb-false, eqb-true, le-leb, le-ltb, leb-false, leb-true, lt-leb, lt-ltb, ltb-false, ltb-true, ne_eqb, not-false, not-true}
pub use Rattle.facts.specs.Lists.{All, any, below, count, distinct, elem, every, filter, is_nil, is_some, total, update}
pub use Rattle.facts.proofs.Bools.{and_left, and_no, and_right, and_swap, bool_eq, by_cases, eqb-turned, nor_left, nor_right, or_left, or_right}
pub use Rattle.facts.proofs.Lists.{below_last, drop_past, every-at, every_cong, every_get, every_made, every_of, every-same}
