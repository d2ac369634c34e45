-- What a generator holds, and which state comes next.
use Rattle.std.specs.Prelude.{ℕ, ◌*◌, ◌/◌, ◌%◌, ◌^◌, bit_xor}
use Rattle.random.specs.declared.Random.{Random}

-- the number that the next one is made from
abbrev pub state_of : Random → ℕ
state_of r = r.state

-- a word of 64 bits, mixed with itself shifted to the left, or to the right
abbrev pub mixed_left : ℕ → ℕ → ℕ
mixed_left k x = bit_xor x (x * 2 ^ k % 2 ^ 64)

abbrev pub mixed_right : ℕ → ℕ → ℕ
mixed_right k x = bit_xor x (x / 2 ^ k)

-- the state that follows, which is the next number: the xorshift by 13, 7 and 17
unfoldable pub next_state : ℕ → ℕ
next_state s = mixed_left 17 (mixed_right 7 (mixed_left 13 s))
