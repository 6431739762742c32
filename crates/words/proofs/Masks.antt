-- Two parts in one word, by shifts and masks, over the widths. (What a mask and a shift give alone is `and_mask` of the library.)
use Rattle.std.proofs.Common.{◌≡◌, ℕ, ◌+◌, ◌-◌, ◌*◌, ◌%◌, ◌^◌, ◌≤◌, ap, ◌∙◌, ap₂, shl_exact}
use lib.Bits.{bit_and, bit_or, and_mask, mask_lt, or_shifted}

-- `(a & mask) << k | b & mask`, j bits of a above k bits of b in a word of w bits
pub joined : (j k w a b : ℕ) → j + k ≤ w → bit_or (bit_and a (2 ^ j - 1) * 2 ^ k % 2 ^ w) (bit_and b (2 ^ k - 1)) ≡ a % 2 ^ j * 2 ^ k + b % 2 ^ k
joined j k w a b h =
    ap (λ (x : ℕ). bit_or x (bit_and b (2 ^ k - 1))) (shl_exact j k w (mask_lt a j) h)
    ∙ or_shifted (bit_and a (2 ^ j - 1)) k (bit_and b (2 ^ k - 1)) (mask_lt b k)
    ∙ ap₂ (λ (x y : ℕ). x * 2 ^ k + y) (and_mask a j) (and_mask b k)
