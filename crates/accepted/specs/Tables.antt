-- No table of a station is too large: what the Rust asks of its tables' lengths always holds under the pack limit. Assumes nothing.
use Rattle.std.specs.Prelude.{ℕ, ◌^◌, ◌<◌, ◌≤◌, List}
use Rattle.enclave.specs.Answer.{pack_image}
use Rattle.federate.specs.Enclaves.{image_at}

-- every table of a station pack has fewer than 65,536 rows, whatever the pack: no more records than the limit has are looked at
abbrev pub NoTableTooLarge : Type 0
NoTableTooLarge = (p batch house : List ℕ) (t : ℕ) → (pack_image p batch house).rows t < 65536

-- and so has every table of each station of a line: that of record n
abbrev pub NoTableTooLargeInLine : Type 0
NoTableTooLargeInLine = (p batch house : List ℕ) (n t : ℕ) → (image_at p batch house n).rows t < 65536

-- no table has more rows than 32-bit keys can name, as the Rust asks of the tables 2 to 7, 23 and 24 (view.rs, `check_enclave_len`)
abbrev pub LengthsFit : Type 0
LengthsFit =
    (p batch house : List ℕ) (n t : ℕ)
    → ((pack_image p batch house).rows t ≤ 2 ^ 32) × ((image_at p batch house n).rows t ≤ 2 ^ 32)
