-- A byte more of a line's number, case by case, and where it is put.
use Rattle.std.proofs.Common.{◌≡◌, ℕ, ◌+◌, ◌*◌, ◌%◌, ◌^◌, ◌<◌, ◌≤◌, true, false, cond, ◌&&◌, eqb, leb, List, set, le-ltb, lt-ltb, eq-eqb, ne_eqb, le-leb}
use borrow.Author.Tests.{lt-leb}
use Rattle.replay.specs.way.Line.{read_byte, put_at}

module _ (v b : ℕ) where
  pub blank : b ≡ 32 → 0 ≡ read_byte v b
  unfolding read_byte
  blank e = rw (eq-eqb b 32 e)

  module _ (s : b ≡ 32 → ⊥) where
    pub line-end : eqb b 10 ≡ true → 0 ≡ read_byte v b
    unfolding read_byte
    line-end e = rw (ne_eqb b 32 s, e)

    module _ (l : eqb b 10 ≡ false) where
      pub digit : 48 ≤ b → leb b 57 ≡ true → (r : ℕ) → r ≡ (v % 1844674407370955162 * 10 + b % 48) % 2 ^ 64 → r ≡ read_byte v b
      unfolding read_byte
      digit h k r e = rw (ne_eqb b 32 s, l, le-leb 48 b h, k) e

      -- no digit
      letter : (leb 48 b && leb b 57) ≡ false → (r : ℕ) → r ≡ cond (eqb v 0) (b * 100) ((v + 1) % 2 ^ 64) → r ≡ read_byte v b
      unfolding read_byte
      letter n r e = rw (ne_eqb b 32 s, l, n) e

      pub first : (leb 48 b && leb b 57) ≡ false → v ≡ 0 → b * 100 ≡ read_byte v b
      first n e = letter n (b * 100) (rw (eq-eqb v 0 e))

      pub other : (leb 48 b && leb b 57) ≡ false → (v ≡ 0 → ⊥) → (r : ℕ) → r ≡ (v + 1) % 2 ^ 64 → r ≡ read_byte v b
      other n e r f = letter n r (rw (ne_eqb v 0 e) f)

pub above : (b : ℕ) → 48 ≤ b → leb b 57 ≡ false → (leb 48 b && leb b 57) ≡ false
above b h k = rw (le-leb 48 b h, k)

pub below : (b : ℕ) → b < 48 → (leb 48 b && leb b 57) ≡ false
below b h = rw (lt-leb 48 b h)

module _ (l : List ℕ) (at v w : ℕ) where
  pub put_in : at < 4096 → v ≡ w → set l at v ≡ put_at l at w
  put_in h e = rw (lt-ltb at 4096 h, e)

  pub put-out : 4096 ≤ at → l ≡ put_at l at w
  put-out h = rw (le-ltb at 4096 h)
