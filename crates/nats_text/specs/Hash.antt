-- The 32-bit FNV-1a hash of Fowler, Noll and Vo.
use Rattle.std.specs.Prelude.{ℕ, List, ◌*◌, ◌%◌, ◌^◌, bit_xor, fold}

-- the hash of the bytes so far and one more: an exclusive or, then a product with the prime in 32 bits
abbrev pub fnv1a_next : ℕ → ℕ → ℕ
fnv1a_next hash byte = bit_xor hash byte * 16777619 % 2 ^ 32

-- from the offset basis on, each byte in turn
abbrev pub fnv1a : List ℕ → ℕ
fnv1a bytes = fold fnv1a_next 2166136261 bytes
