-- The steps of turning a pack: record by record. Assumes nothing.
use Rattle.std.proofs.Common.{ℕ, ◌+◌, ◌*◌, ◌-◌, ◌/◌, ◌<◌, ◌≤◌, List, ◌++◌, get_or, drop, length, ◌≡◌, refl, sym, ◌∙◌, ap, arith, length-append, length-drop, get_or-drop, ext_get_or}
use Rattle.std.proofs.lemmas.List.{get_or_append_left, get_or-append_right}
use Rattle.identity.proofs.Tests.{below_or_not}
use Rattle.schema.specs.Bytes.{Whole, IsRecord}
use Rattle.convert.specs.Turned.{turned}
use Rattle.convert.specs.Steps.{IsTurnedRecord}
use Rattle.convert.proofs.Puts.{put, length-put, put_below, put_inside, put_above}
use Rattle.convert.proofs.Bytes.{length-turned, byte_turned}

-- the first n records of p stand turned round in b, and behind them b is a
pub record Through (p : List ℕ) (n : ℕ) (a b : List ℕ) : Type 0 where
  pub sized : length b ≡ length a
  pub done : (i : ℕ) → i < n * 64 → get_or b i 0 ≡ get_or (turned p) i 0
  pub rest : (i : ℕ) → n * 64 ≤ i → get_or b i 0 ≡ get_or a i 0

pub through_start : (p a : List ℕ) → Through p 0 a a
through_start p a = record { sized = refl; done = λ i h. absurd (omega arith); rest = λ i h. refl }

pub through_step : {p : List ℕ} {n : ℕ} {a b c : List ℕ} → Through p n a b → IsRecord p n → length p ≤ length a → IsTurnedRecord p n c
    → Through p (n + 1) a (put (n * 64) 64 b c)
through_step {p} {n} {a} {b} {c} t h l r =
    let s = t.sized in
    let e : n * 64 + 64 ≤ length b = omega arith in
    record {
      sized = length-put (n * 64) 64 b c r.sized e ∙ s;
      done = λ i g.
          below_or_not i (n * 64)
          (λ m. put_below (n * 64) 64 b c i m (omega arith) ∙ t.done i m)
          (λ m.
          let z : n * 64 + (i - n * 64) ≡ i = omega arith in
          let k : i - n * 64 < 64 = omega arith in
          rw z at (put_inside (n * 64) 64 b c (i - n * 64) r.sized k (omega arith) ∙ (r.bytes (i - n * 64) k ∙ sym (byte_turned p n (i - n * 64) h k))));
      rest = λ i g. put_above (n * 64) 64 b c i r.sized (omega arith) e ∙ t.rest i (omega arith);
    }

pub through_end : {p : List ℕ} {n : ℕ} {a b : List ℕ} → Through p n a b → n ≡ length p / 64 → Whole p → length p ≤ length a
    → b ≡ turned p ++ drop (length p) a
through_end {p} {n} {a} {b} t e w l =
    let z : n * 64 ≡ length p = omega arith in
    let k = length-turned p in
    let s : length (turned p ++ drop (length p) a) ≡ length a = simp (length-append, length-drop) (omega arith) in
    ext_get_or 0 b (turned p ++ drop (length p) a) (t.sized ∙ sym s)
    (λ i h.
    below_or_not i (length p)
    (λ m. t.done i (omega arith) ∙ sym (get_or_append_left (turned p) (drop (length p) a) 0 i (omega arith)))
    (λ m.
    let y : length p + (i - length p) ≡ i = omega arith in
    t.rest i (omega arith)
    ∙ sym (get_or-append_right (turned p) (drop (length p) a) (length p) i 0 k m ∙ (get_or-drop (length p) a (i - length p) 0 ∙ ap (λ (j : ℕ). get_or a j 0) y))))
