-- How many records of a pack are looked at: all within the limit, and some where there is one. Assumes nothing.
use Rattle.std.proofs.Common.{ℕ, ◌%◌, ◌/◌, ◌<◌, ◌≤◌, ltb, ◌≡◌, refl, List, length, arith}
use borrow.Author.Tests.{ltb-false}
use Rattle.identity.proofs.Tests.{cases}
use Rattle.schema.specs.Records.{records_of}

module _ (p : List ℕ) where
  pub records_all : length p ≤ 4194304 → records_of p ≡ length p / 64
  records_all h =
      cases (ltb (length p / 64) 65536)
      (λ t. rw t refl)
      (λ f. let l = ltb-false (length p / 64) 65536 f in rw f (omega arith))

  pub some_record : 0 < length p → length p % 64 ≡ 0 → 1 ≤ records_of p
  some_record h w =
      cases (ltb (length p / 64) 65536)
      (λ t. rw t (omega arith))
      (λ f. rw f (omega arith))
