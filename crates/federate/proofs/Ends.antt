-- Where the enclave of a record ends, and its pack. Assumes nothing.
use Prim.Native.Nat.{max}
use Rattle.std.proofs.Common.{ℕ, zero, suc, ◌+◌, ◌-◌, ◌*◌, ◌/◌, ◌%◌, ◌<◌, ◌≤◌, Bool, true, false, cond, ◌≡◌, refl, sym, ◌∙◌, ap, List, length, take, drop, length-drop, arith}
use Rattle.std.proofs.Math.Seq.{length-take-le}
use Rattle.std.specs.Prelude.{Option, Some, None, MatchOption}
use Rattle.std.specs.Option.{unwrap_or}
use Rattle.route_pairs.proofs.Tests.{same_or}
use Rattle.schema.specs.Bytes.{Whole}
use Rattle.schema.specs.Records.{records_of, is_of}
use Rattle.schema.proofs.Counts.{records_inside}
use Rattle.federate.specs.Records.{enclave_from, enclave_end, enclave_pack}

-- the first enclave's record of k records from n on is record i, where that is one and none before it is
abbrev NoneBelow : List ℕ → ℕ → ℕ → Type 0
NoneBelow p n e = (k : ℕ) → n ≤ k → k < e → is_of p 1 k ≡ false

from-is : (p : List ℕ) (k n i : ℕ) → n ≤ i → i < n + k → is_of p 1 i ≡ true → NoneBelow p n i → enclave_from p n k ≡ i
unfolding enclave_from
from-is p zero n i h g e none = absurd (omega arith)
from-is p (suc k) n i h g e none =
    same_or n i
    (λ (q : n ≡ i). rw (q, e))
    (λ ne. rw (none n (omega arith) (omega arith)) (from-is p k (suc n) i (omega arith) (omega arith) e (λ j a b. none j (omega arith) b)))

from-none : (p : List ℕ) (k n : ℕ) → NoneBelow p n (n + k) → enclave_from p n k ≡ n + k
unfolding enclave_from
from-none p zero n none = let e : n + 0 ≡ n = omega arith in rw e refl
from-none p (suc k) n none =
    let e : n + suc k ≡ suc n + k = omega arith in
    rw (none n (omega arith) (omega arith), e) (from-none p k (suc n) (λ j a b. none j (omega arith) (omega arith)))

-- what a search through the records finds
pub searched : (p : List ℕ) (n m e : ℕ) (r : Option ℕ) → e ≡ max m n → m ≡ records_of p
    → MatchOption r (NoneBelow p n m) (λ i. (n ≤ i) × (i < m) × (is_of p 1 i ≡ true) × NoneBelow p n i) → unwrap_or r e ≡ enclave_from p n (records_of p - n)
searched p n m e None f g none =
    let k : n + (records_of p - n) ≡ e = omega arith in
    sym (from-none p (records_of p - n) n (λ j a b. none j a (omega arith)) ∙ k)
searched p n m e (Some i) f g (a, b, t, none) = sym (from-is p (records_of p - n) n i a (omega arith) t none)

-- it ends after its own record, and inside the pack
either : (b : Bool) (k n m : ℕ) → (suc n ≤ m) × (m ≤ suc n + k) → (n ≤ cond b n m) × (cond b n m ≤ n + suc k)
either true k n m h = (omega arith, omega arith)
either false k n m h = let a = h.0 in let c = h.1 in (omega arith, omega arith)

pub from-within : (p : List ℕ) (k n : ℕ) → (n ≤ enclave_from p n k) × (enclave_from p n k ≤ n + k)
unfolding enclave_from
from-within p zero n = (omega arith, omega arith)
from-within p (suc k) n = either (is_of p 1 n) k n _ (from-within p k (suc n))

pub end-within : (p : List ℕ) (n : ℕ) → n < records_of p → (n < enclave_end p n) × (enclave_end p n ≤ records_of p)
end-within p n l =
    let h = from-within p (records_of p - suc n) (suc n) in
    let a = h.0 in
    let b = h.1 in
    (omega arith, omega arith)

-- so its bytes are a part of the pack
module _ (p : List ℕ) (n end : ℕ) (l : n < records_of p) (e : end ≡ enclave_end p n) where
  pub part_start : n * 64 ≤ end * 64
  part_start = let a = (end-within p n l).0 in omega arith

  pub part_end : end * 64 ≤ length p
  part_end = let a = (end-within p n l).1 in let i = records_inside p in omega arith

  pub part_is : take (end * 64 - n * 64) (drop (n * 64) p) ≡ enclave_pack p n
  part_is =
      let q : end * 64 - n * 64 ≡ (enclave_end p n - n) * 64 = omega arith in
      ap (λ (k : ℕ). take k (drop (n * 64) p)) q

-- of whole records
pub part-length : (p : List ℕ) (n : ℕ) → n < records_of p → length (enclave_pack p n) ≡ (enclave_end p n - n) * 64
part-length p n l =
    let a = part_start p n (enclave_end p n) l refl in
    let b = part_end p n (enclave_end p n) l refl in
    let k : (enclave_end p n - n) * 64 ≤ length (drop (n * 64) p) = simp length-drop (omega arith) in
    length-take-le ((enclave_end p n - n) * 64) (drop (n * 64) p) k

pub part_whole : (p : List ℕ) (n end : ℕ) → n < records_of p → end ≡ enclave_end p n → length (take (end * 64 - n * 64) (drop (n * 64) p)) % 64 ≡ 0
part_whole p n end l e = rw (part_is p n end l e, part-length p n l) (omega arith)

pub part-whole : (p : List ℕ) (n : ℕ) → n < records_of p → Whole (enclave_pack p n)
part-whole p n l = rw (part-length p n l) (omega arith)

-- its own at least
pub part-some : (p : List ℕ) (n : ℕ) → n < records_of p → 0 < length (enclave_pack p n) / 64
part-some p n l =
    let a = (end-within p n l).0 in
    rw (part-length p n l) (omega arith)

pub part_some : (p : List ℕ) (n : ℕ) → n < records_of p → 0 < length (enclave_pack p n)
part_some p n l =
    let a = (end-within p n l).0 in
    rw (part-length p n l) (omega arith)

pub ruleset part_laws = (part_start, part_end, part_is, part_whole)
