-- The enclaves one after the other: the answer of one, and what the loop from enclave to enclave knows. Assumes nothing.
use Rattle.std.proofs.Common.{ℕ, zero, suc, ◌+◌, ◌-◌, ◌*◌, ◌^◌, ◌<◌, ◌≤◌, Bool, true, false, cond, ◌≡◌, refl, ◌∙◌, List, add-one, arith, get_or}
use Rattle.std.proofs.Math.Nat.{mul-le-mul}
use Rattle.std.specs.Prelude.{Ok, Err}
use Rattle.identity.proofs.Tests.{cases}
use Rattle.answers.specs.declared.Refusal.{Refusal}
use Rattle.answers.specs.Checks.{first, Outcome, passed}
use Rattle.answers.proofs.Laws.{first_past, first_stops, answered, not_answered}
use Rattle.answers.proofs.Loops.{Remaining, run_next, run_over}
use Rattle.schema.specs.Records.{records_of, is_of}
use Rattle.packing.specs.Starts.{reaches, first_reaching, table_starts}
use Rattle.packing.proofs.TableStarts.{starts-at}
use Rattle.checks.specs.Image.{Image}
use Rattle.scope_checks.specs.Links.{links, parents}
use Rattle.scope_checks.proofs.LinksLaws.{below-within}
use Rattle.enclave.specs.Passes.{enclave_checks}
use Rattle.enclave.specs.Answer.{image_result}
use Rattle.federate.specs.Records.{enclave_from, enclave_end, enclave_pack}
use Rattle.federate.specs.Enclaves.{image_at, order_checks, record_checks, record_answer, enclaves_answer, links_before}
use Rattle.schema.proofs.Counts.{records_inside, records_few}
use Rattle.federate.proofs.Ends.{end-within, part-length}

-- the enclave of record n: refused, its identity refused, both passed
module _ (p batch house : List ℕ) (start n : ℕ) (t : is_of p 1 n ≡ true) where
  abbrev m : Image
  m = image_at p batch house n

  pub own_refused : {r : Refusal} → image_result m ≡ Err r → record_answer p batch house start n ≡ Err r
  unfolding record_checks image_result
  own_refused e = rw (t, first_stops (enclave_checks m) (order_checks p batch house start n) (not_answered (first (enclave_checks m)) (links m) e)) refl

  module _ {k : ℕ} (e : image_result m ≡ Ok k) where
    own-passed : (first (enclave_checks m) ≡ passed) × (links m ≡ k)
    unfolding image_result
    own-passed = answered (first (enclave_checks m)) (links m) e

    pub order_refused : {r : Refusal} → first (order_checks p batch house start n) ≡ Err r → record_answer p batch house start n ≡ Err r
    unfolding record_checks
    order_refused d = rw (t, first_past (enclave_checks m) (order_checks p batch house start n) own-passed.0, d) refl

    pub record_accepted : first (order_checks p batch house start n) ≡ passed → record_answer p batch house start n ≡ Ok k
    unfolding record_checks
    record_accepted d = rw (t, first_past (enclave_checks m) (order_checks p batch house start n) own-passed.0, d, own-passed.1) refl

pub ruleset record_laws = (own_refused, order_refused, record_accepted)

-- a table starts at most as many records after the first row as the pack has
either : (b : Bool) (m n k : ℕ) → m ≤ n + 1 + k → cond b n m ≤ n + suc k
either true m n k h = omega arith
either false m n k h = omega arith

first-near : (p : List ℕ) (t f a : ℕ) → first_reaching p t a f ≤ a + f
unfolding first_reaching
first-near p t zero a = omega arith
first-near p t (suc f) a = either (reaches p t a) _ a f (first-near p t f (a + 1))

-- the links of an enclave fit 33 bits
links-few : (p batch house : List ℕ) (n : ℕ) → n < records_of p → links (image_at p batch house n) ≤ 65537 * 65537
links-few p batch house n l =
    let few = records_few p in
    let inside = records_inside (enclave_pack p n) in
    let m = image_at p batch house n in
    let own = enclave_pack p n in
    let w = end-within p n l in
    let w1 = w.1 in
    let size = part-length p n l in
    let a : get_or (table_starts own 1) 8 0 ≤ 1 + records_of own = rw (starts-at own 1 8 (omega arith)) (first-near own 8 (records_of own) 1) in
    let rows : m.rows 7 ≤ 65537 = omega arith in
    let b = below-within (parents m) (m.rows 7) (m.rows 7) in
    let c = mul-le-mul {n₂ = 65537} {m₂ = 65537} rows rows in
    omega arith

-- before record n: the checks of the records before it passed, and the sum is that of their links
pub record Before (p batch house : List ℕ) (start n sum : ℕ) : Type 0 where
  pub left : Remaining (record_checks p batch house start) n (records_of p)
  pub sums : sum ≡ links_before p batch house n
  pub few : sum ≤ n * (65537 * 65537)

before-zero : (p batch house : List ℕ) (start : ℕ) → Before p batch house start 0 0
unfolding links_before
before-zero p batch house start =
    record {
      left = let e : records_of p - 0 ≡ records_of p = omega arith in rw e refl;
      sums = refl;
      few = omega arith;
    }

module _ (p batch house : List ℕ) (start : ℕ) where
  abbrev checks-at : ℕ → Outcome
  checks-at n = first (record_checks p batch house start n)

  -- the next record, whose checks pass
  next : (n : ℕ) → n < records_of p → checks-at n ≡ passed → Remaining (record_checks p batch house start) n (records_of p) → Remaining (record_checks p batch house start) (n + 1) (records_of p)
  next n l e r = r ∙ rw (run_next (record_checks p batch house start) n (records_of p) l) (first_past (record_checks p batch house start n) _ e)

  -- a record that is no enclave's
  before-other : (n sum : ℕ) → Before p batch house start n sum → n < records_of p → is_of p 1 n ≡ false → Before p batch house start (n + 1) sum
  unfolding record_checks links_before first
  before-other n sum b l e =
      let few = b.few in
      let s : sum ≡ links_before p batch house n + 0 = (let i = b.sums in omega arith) in
      record {
        left = next n l (rw e refl) b.left;
        sums = rw (add-one n, e) s;
        few = omega arith;
      }

  -- up to the next enclave's record, of k records looked at
  before-gap : (k n sum : ℕ) → n + k ≤ records_of p → Before p batch house start n sum → Before p batch house start (enclave_from p n k) sum
  unfolding enclave_from
  before-gap zero n sum h b = b
  before-gap (suc k) n sum h b =
      cases (is_of p 1 n)
      (λ t. rw t b)
      (λ f. rw f (before-gap k (suc n) sum (omega arith) (rw add-one at (before-other n sum b (omega arith) f))))

  pub before_start : (m : ℕ) → m ≡ enclave_from p 0 (records_of p) → Before p batch house start m 0
  before_start m e = rw e (before-gap (records_of p) 0 0 (omega arith) (before-zero p batch house start))

  module _ (n sum : ℕ) (b : Before p batch house start n sum) (l : n < records_of p) (e : is_of p 1 n ≡ true) where
    pub before_refused : {r : Refusal} → record_answer p batch house start n ≡ Err r → enclaves_answer p batch house start ≡ Err r
    before_refused d =
        rw (b.left, run_next (record_checks p batch house start) n (records_of p) l, first_stops (record_checks p batch house start n) _ (not_answered (checks-at n) (links (image_at p batch house n)) d)) refl

    module _ (k : ℕ) (d : record_answer p batch house start n ≡ Ok k) where
      found : (checks-at n ≡ passed) × (links (image_at p batch house n) ≡ k)
      found = answered (checks-at n) (links (image_at p batch house n)) d

      pub before_fits : sum + k < 2 ^ 64
      before_fits =
          let few = b.few in
          let most = records_few p in
          let x = links-few p batch house n l in
          let y = found.1 in
          omega arith

      more : Before p batch house start (n + 1) (sum + k)
      unfolding links_before
      more =
          let few = b.few in
          let x = links-few p batch house n l in
          let y = found.1 in
          record {
            left = next n l found.0 b.left;
            sums = rw (add-one n, e, ← b.sums, found.1) refl;
            few = omega arith;
          }

      pub before_more : (m : ℕ) → m ≡ enclave_end p n → Before p batch house start m (sum + k)
      before_more m g = rw g (before-gap (records_of p - suc n) (suc n) (sum + k) (omega arith) (rw add-one at more))

  pub before_all : (n sum : ℕ) → Before p batch house start n sum → records_of p ≤ n → n ≤ records_of p → enclaves_answer p batch house start ≡ Ok sum
  before_all n sum b h w =
      let k : records_of p ≡ n = omega arith in
      rw (b.left, run_over (record_checks p batch house start) n (records_of p) h, k, b.sums) refl

pub ruleset before_laws = (before_start, before_refused, before_fits, before_more, before_all)
