-- Making a host word and taking it apart undo each other.
--     reservation-made, commit-made, done-made, zeroes-made, host-within    the answers of what is made; it is at most 15
--     host-again             a host word of at most 15 from its answers
--     set-bit, host-made     what the shifts of `new` give
use Rattle.std.proofs.Common.{◌≡◌, ℕ, zero, suc, ◌+◌, ◌*◌, ◌/◌, ◌%◌, ◌^◌, ◌<◌, ◌≤◌, Bool, true, false, eqb, sym, refl, ap, ◌∙◌, ap₂, mod-eq_of_lt, arith, shl_exact, ltb-false, le-ltb}
use lib.Bits.{bit_or, or_shifted_r}
use lib.Arith.{digits_lt}
use mir.Val.{bool_byte}
use lib.Pow.{high, low, mod-pow-add}
use Rattle.words.specs.Host.{bit, digit, host_bits, host_max, host_word, reservation_granted, commit_granted, discard_done, discard_zeroes, bad_host}

digit_lt : (b : Bool) → digit b < 2 ^ 1
digit_lt true = omega arith
digit_lt false = omega arith

pub set-bit : (k w : ℕ) (b : Bool) {n : ℕ} → 1 + k ≤ w → n < 2 ^ k → bit_or n (digit b * 2 ^ k % 2 ^ w) ≡ digit b * 2 ^ k + n
set-bit k w b {n} h l = ap (bit_or n) (shl_exact 1 k w (digit_lt b) h) ∙ or_shifted_r (digit b) k n l

pub eqb-digit : (b : Bool) → eqb (digit b) 1 ≡ b
eqb-digit true = refl
eqb-digit false = refl

-- a truth value as a number of the code
pub byte-digit : (b : Bool) → bool_byte b ≡ digit b
byte-digit true = refl
byte-digit false = refl

digit-eqb : (x : ℕ) → x < 2 → digit (eqb x 1) ≡ x
digit-eqb zero h = refl
digit-eqb (suc zero) h = refl
digit-eqb (suc (suc x)) h = omega arith

-- a bit is what was put there, whatever stands above it and below
bit-made : (k hi n w : ℕ) (b : Bool) → n < 2 ^ k → w ≡ (hi * 2 ^ 1 + digit b) * 2 ^ k + n → bit k w ≡ b
bit-made k hi n w b h e =
    ap (bit k) e ∙ ap (λ (x : ℕ). eqb (x % 2) 1) (high (hi * 2 ^ 1 + digit b) k h)
    ∙ ap (λ (x : ℕ). eqb x 1) (low hi 1 (digit_lt b)) ∙ eqb-digit b

digit-bit : (k h : ℕ) → digit (bit k h) ≡ h / 2 ^ k % 2
digit-bit k h = digit-eqb (h / 2 ^ k % 2) (omega arith)

-- the word of the bits below each
abbrev two : Bool → Bool → ℕ
two reservation commit = digit commit * 2 ^ 1 + digit reservation

abbrev three : Bool → Bool → Bool → ℕ
three reservation commit done = digit done * 2 ^ 2 + two reservation commit

two-lt : (reservation commit : Bool) → two reservation commit < 2 ^ 2
two-lt reservation commit = digits_lt (digit_lt commit) (digit_lt reservation)

three-lt : (reservation commit done : Bool) → three reservation commit done < 2 ^ 3
three-lt reservation commit done = digits_lt (digit_lt done) (two-lt reservation commit)

module _ (reservation commit done zeroes : Bool) where
  abbrev word : ℕ
  word = host_word reservation commit done zeroes

  pub reservation-made : reservation_granted word ≡ reservation
  reservation-made = bit-made 0 (digit zeroes * 4 + digit done * 2 + digit commit) 0 word reservation (omega arith) (omega arith)

  pub commit-made : commit_granted word ≡ commit
  commit-made = bit-made 1 (digit zeroes * 2 + digit done) (digit reservation) word commit (digit_lt reservation) (omega arith)

  pub done-made : discard_done word ≡ done
  done-made = bit-made 2 (digit zeroes) (two reservation commit) word done (two-lt reservation commit) (omega arith)

  pub zeroes-made : discard_zeroes word ≡ zeroes
  zeroes-made = bit-made 3 0 (three reservation commit done) word zeroes (three-lt reservation commit done) (omega arith)

  pub host-within : bad_host word ≡ false
  host-within = le-ltb host_max word (omega (arith, digits_lt (digit_lt zeroes) (three-lt reservation commit done)))

  -- the code's order: each bit is put above those before it
  pub host-made : (w : ℕ) → host_bits ≤ w
      → bit_or (bit_or (bit_or (digit reservation) (digit commit * 2 ^ 1 % 2 ^ w)) (digit done * 2 ^ 2 % 2 ^ w)) (digit zeroes * 2 ^ 3 % 2 ^ w) ≡ word
  host-made w h =
      ap (λ (x : ℕ). bit_or (bit_or x (digit done * 2 ^ 2 % 2 ^ w)) (digit zeroes * 2 ^ 3 % 2 ^ w)) (set-bit 1 w commit (omega arith) (digit_lt reservation))
      ∙ ap (λ (x : ℕ). bit_or x (digit zeroes * 2 ^ 3 % 2 ^ w)) (set-bit 2 w done (omega arith) (two-lt reservation commit))
      ∙ set-bit 3 w zeroes (omega arith) (three-lt reservation commit done)

-- the bits of a word up to k, with the next
next_bit : (k h : ℕ) {n : ℕ} → n ≡ h % 2 ^ k → digit (bit k h) * 2 ^ k + n ≡ h % 2 ^ (1 + k)
next_bit k h e = ap₂ (λ (x y : ℕ). x * 2 ^ k + y) (digit-bit k h) e ∙ sym (mod-pow-add h 1 k)

pub host-again : (h : ℕ) → bad_host h ≡ false → host_word (reservation_granted h) (commit_granted h) (discard_done h) (discard_zeroes h) ≡ h
host-again h e =
    next_bit 3 h (next_bit 2 h (next_bit 1 h (omega (arith, digit-bit 0 h)))) ∙ mod-eq_of_lt (omega (arith, ltb-false host_max h e))
