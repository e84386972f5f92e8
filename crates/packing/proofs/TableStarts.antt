-- Where a table begins: the record that reaches it first. Assumes nothing.
use Prim.Native.Nat.{ℕ, zero, suc, ◌+◌, ◌-◌, ◌%◌, ◌<◌, ◌≤◌}
use Rattle.std.specs.Prelude.{min}
use mathlib.Core.Bool.{Bool, true, false, not, ◌||◌, true≢false}
use mathlib.Core.Path.{◌≡◌, refl, ◌∙◌, sym, ap}
use mathlib.Core.List.{List, [], ◌∷◌, ◌++◌}
use native.Mathlib.Numerals.{add-one}
use native.Mathlib.Omega.{arith}
use lib.Dec.{ltb, leb}
use lib.ListN.{length, get_or, take, drop, replicate, length-append, get_or-append}
use lib.Seq.{get_or_at, take_all}
use Rattle.std.proofs.lemmas.List.{append-nil, append_assoc, take_at, length-take-le, length-drop, length-replicate, replicate_more}
use borrow.Author.Tests.{ltb-true, ltb-false, leb-true, leb-false, le-leb, lt-leb}
use Rattle.identity.proofs.Tests.{cases}
use Rattle.schema.specs.Bytes.{byte_of}
use Rattle.schema.specs.Tables.{tables, IsRising, EndsInside}
use Rattle.schema.specs.Records.{records_of}
use Rattle.schema.proofs.Counts.{records_inside, records_few}
use Rattle.packing.proofs.Records.{some_record}
use Rattle.packing.specs.Starts.{reaches, first_reaching, table_start, starts_below, table_starts}

reaching : (a b : Bool) (d e : ℕ) → not a || (b || leb d e) ≡ false → (a ≡ true) × (b ≡ false) × (e < d)
reaching true true d e h = absurd (true≢false h)
reaching true false d e h = (refl, refl, leb-false d e h)
reaching false b d e h = absurd (true≢false h)

module _ (p : List ℕ) where
  -- a record that does not reach table t lies inside and is of an earlier one
  pub not-reached : (t k : ℕ) → reaches p t k ≡ false → (k < records_of p) × (byte_of p k 0 < t)
  not-reached t k h =
      let r = reaching (ltb k (records_of p)) (ltb (byte_of p k 0) 2) t (byte_of p k 0) h in
      (ltb-true k (records_of p) r.0, r.2)

  -- and is no enclave's, and of table u or a later one where it reaches that
  pub reached-row : (t u k : ℕ) → reaches p t k ≡ false → reaches p u k ≡ true → u ≤ byte_of p k 0
  reached-row t u k h g =
      let r = reaching (ltb k (records_of p)) (ltb (byte_of p k 0) 2) t (byte_of p k 0) h in
      leb-true u (byte_of p k 0) (rw (r.0, r.1) at g)

  -- nor does it reach a later table
  later : (a b : Bool) (d e x : ℕ) → d ≤ e → not a || (b || leb d x) ≡ false → not a || (b || leb e x) ≡ false
  later true true d e x l h = h
  later true false d e x l h = let g = leb-false d x h in lt-leb e x (omega arith)
  later false b d e x l h = h

  not-later : (t u k : ℕ) → t ≤ u → reaches p t k ≡ false → reaches p u k ≡ false
  not-later t u k l h = later (ltb k (records_of p)) (ltb (byte_of p k 0) 2) t u (byte_of p k 0) l h

  first-from : (t f a : ℕ) → a ≤ first_reaching p t a f
  unfolding first_reaching
  first-from t zero a = omega arith
  first-from t (suc f) a =
      cases (reaches p t a) (λ r. rw r (omega arith)) (λ r. rw r (let g = first-from t f (a + 1) in omega arith))

  first-within : (t f a : ℕ) → a ≤ records_of p → first_reaching p t a f ≤ records_of p
  unfolding first_reaching
  first-within t zero a h = h
  first-within t (suc f) a h =
      cases (reaches p t a) (λ r. rw r h) (λ r. rw r (let g = (not-reached t a r).0 in first-within t f (a + 1) (omega arith)))

  first-rises : (t u f a : ℕ) → t ≤ u → first_reaching p t a f ≤ first_reaching p u a f
  unfolding first_reaching
  first-rises t u zero a l = omega arith
  first-rises t u (suc f) a l =
      cases (reaches p t a)
      (λ r. rw r (first-from u (suc f) a))
      (λ r. rw (r, not-later t u a l r) (first-rises t u f (a + 1) l))

  -- looking at one record more finds the same, where all were looked at
  one_more : (t f a : ℕ) → records_of p ≤ a + f → first_reaching p t a (suc f) ≡ first_reaching p t a f
  unfolding first_reaching
  one_more t zero a h =
      cases (reaches p t a) (λ r. rw r) (λ r. let g = (not-reached t a r).0 in absurd (omega arith))
  one_more t (suc f) a h =
      cases (reaches p t a) (λ r. rw r) (λ r. rw r (one_more t f (a + 1) (omega arith)))

  -- the search goes on from a record that does not reach the table, and ends at one that does
  search_by : (t a f : ℕ) → records_of p ≡ suc f → reaches p t a ≡ false → first_reaching p t a (records_of p) ≡ first_reaching p t (a + 1) (records_of p)
  unfolding first_reaching
  search_by t a f e r = rw (e, r) (sym (one_more t f (a + 1) (omega arith)))

  pub search_next : (t a : ℕ) → reaches p t a ≡ false → first_reaching p t a (records_of p) ≡ first_reaching p t (a + 1) (records_of p)
  search_next t a r = let g = (not-reached t a r).0 in search_by t a (records_of p - 1) (omega arith) r

  found_by : (t a f : ℕ) → reaches p t a ≡ true → first_reaching p t a f ≡ a
  unfolding first_reaching
  found_by t a zero r = refl
  found_by t a (suc f) r = rw r

  pub search_found : (t a : ℕ) → reaches p t a ≡ true → first_reaching p t a (records_of p) ≡ a
  search_found t a r = found_by t a (records_of p) r

  pub search_inside : (t a : ℕ) → reaches p t a ≡ false → a < records_of p
  search_inside t a r = (not-reached t a r).0

  -- the number after such a record is a small one
  pub search_small : (t a : ℕ) → reaches p t a ≡ false → a < 65536
  search_small t a r = let g = (not-reached t a r).0 in let h = records_few p in omega arith

  -- a later table is searched for from where an earlier one begins
  search_on : (t u f a : ℕ) → t ≤ u → first_reaching p u (first_reaching p t a f) (records_of p) ≡ first_reaching p u a (records_of p)
  unfolding first_reaching
  search_on t u zero a l = refl
  search_on t u (suc f) a l =
      cases (reaches p t a)
      (λ r. rw r)
      (λ r. rw r (search_on t u f (a + 1) l ∙ sym (search_next u a (not-later t u a l r))))

  -- the search ends at a record that reaches the table
  reaches_found : (t f a : ℕ) → records_of p ≤ a + f → reaches p t (first_reaching p t a f) ≡ true
  unfolding first_reaching
  reaches_found t zero a h =
      cases (reaches p t a) (λ r. r) (λ r. let g = (not-reached t a r).0 in absurd (omega arith))
  reaches_found t (suc f) a h =
      cases (reaches p t a) (λ r. rw r r) (λ r. rw r (reaches_found t f (a + 1) (omega arith)))

  -- any record reaches the first table
  reaches_zero : (a : ℕ) → reaches p 0 a ≡ true
  reaches_zero a = cases (reaches p 0 a) (λ r. r) (λ r. let g = (not-reached 0 a r).1 in absurd (omega arith))

pub ruleset search_laws = (search_next, search_found, search_inside, search_small)

-- the list of starts
below_length : (p : List ℕ) (rows k : ℕ) → length (starts_below p rows k) ≡ k
unfolding starts_below
below_length p rows zero = refl
below_length p rows (suc k) = simp length-append (omega (arith, below_length p rows k))

below_at : (p : List ℕ) (rows k t : ℕ) → t < k → get_or (starts_below p rows k) t 0 ≡ table_start p rows t
unfolding starts_below
below_at p rows zero t h = absurd (omega arith)
below_at p rows (suc k) t h =
    let n = below_length p rows k in
    cases (ltb t k)
    (λ b. let l = ltb-true t k b in get_or-append (starts_below p rows k) (table_start p rows k ∷ []) 0 t (omega arith) ∙ below_at p rows k t l)
    (λ b. let l = ltb-false t k b in let e : t ≡ k = omega arith in rw e (get_or_at (starts_below p rows k) (table_start p rows k) [] 0 k n))

module _ (p : List ℕ) (rows : ℕ) where
  pub starts_length : length (table_starts p rows) ≡ suc tables
  unfolding table_starts
  starts_length = below_length p rows (suc tables)

  pub starts-at : (t : ℕ) → t ≤ tables → get_or (table_starts p rows) t 0 ≡ table_start p rows t
  unfolding table_starts
  starts-at t h = below_at p rows (suc tables) t (omega arith)

  -- each start is at least `rows`, and inside the pack where `rows` is
  pub starts_from : (t : ℕ) → t ≤ tables → rows ≤ get_or (table_starts p rows) t 0
  starts_from t h = rw (starts-at t h) (first-from p t (records_of p) rows)

  pub starts-within : (t : ℕ) → t ≤ tables → rows ≤ records_of p → get_or (table_starts p rows) t 0 ≤ records_of p
  starts-within t h l = rw (starts-at t h) (first-within p t (records_of p) rows l)

  -- the starts rise
  pub starts-rise : (t u : ℕ) → t ≤ u → u ≤ tables → get_or (table_starts p rows) t 0 ≤ get_or (table_starts p rows) u 0
  starts-rise t u l h =
      let m : t ≤ tables = omega arith in
      rw (starts-at t m, starts-at u h) (first-rises p t u (records_of p) rows l)

-- tables that begin at one record: their starts are that record's number, once for each
same_starts : (p : List ℕ) (rows t k n m : ℕ) → m ≡ t + n → ((u : ℕ) → t ≤ u → u < m → table_start p rows u ≡ k) → starts_below p rows m ≡ starts_below p rows t ++ replicate n k
unfolding starts_below
same_starts p rows t k zero m e h = let g : m ≡ t = omega arith in rw g (sym (append-nil (starts_below p rows t)))
same_starts p rows t k (suc n) m e h =
    let g : m ≡ suc (t + n) = omega arith in
    let before = same_starts p rows t k n (t + n) refl (λ u l b. h u l (omega arith)) in
    let last = h (t + n) (omega arith) (omega arith) in
    rw (g, before, last)
    (append_assoc (starts_below p rows t) (replicate n k) (k ∷ []) ∙ ap (λ z. starts_below p rows t ++ z) (replicate_more n k ∙ ap (λ z. replicate z k) (add-one n)))

-- s with record k noted as the start of the tables from t on, up to table e
abbrev pub noted : List ℕ → ℕ → ℕ → ℕ → List ℕ
noted s t e k = take t s ++ (replicate (e - t) k ++ drop e s)

-- the walk over the rows: s holds the starts of the tables below t, record k is the first that reaches table t, and the others are searched for from there
pub record Noted (p : List ℕ) (rows : ℕ) (s : List ℕ) (t k : ℕ) : Type 0 where
  pub sized : length s ≡ suc tables
  pub inside : t ≤ suc tables
  pub done : take t s ≡ starts_below p rows t
  pub ahead : (u : ℕ) → t ≤ u → u ≤ tables → first_reaching p u k (records_of p) ≡ table_start p rows u
  pub reached : reaches p t k ≡ true

pub noted_none : (p : List ℕ) (rows : ℕ) (s : List ℕ) → length s ≡ suc tables → Noted p rows s 0 rows
unfolding starts_below
noted_none p rows s e =
    record { sized = e; inside = omega arith; done = refl; ahead = λ u l g. refl; reached = reaches_zero p rows }

noted_length : (s : List ℕ) (t e k : ℕ) → t ≤ e → e ≤ length s → length (noted s t e k) ≡ length s
noted_length s t e k l g =
    let a = length-take-le t s (omega arith) in
    let b = length-replicate (e - t) k in
    let c = length-drop e s in
    let d = length-append (take t s) (replicate (e - t) k ++ drop e s) in
    let f = length-append (replicate (e - t) k) (drop e s) in
    omega arith

noted_upto : (p : List ℕ) (rows : ℕ) (s : List ℕ) (t e k : ℕ) → Noted p rows s t k → t ≤ e → e ≤ suc tables → ((u : ℕ) → t ≤ u → u < e → reaches p u k ≡ true) → take e (noted s t e k) ≡ starts_below p rows e
noted_upto p rows s t e k n l g h =
    let z = n.sized in
    let a = length-take-le t s (omega arith) in
    let b = length-replicate (e - t) k in
    let d = length-append (take t s) (replicate (e - t) k) in
    let whole : e ≡ t + (e - t) = omega arith in
    let same = same_starts p rows t k (e - t) e whole (λ u m i. sym (n.ahead u m (omega arith)) ∙ search_found p u k (h u m i)) in
    ap (take e) (sym (append_assoc (take t s) (replicate (e - t) k) (drop e s))) ∙ take_at (take t s ++ replicate (e - t) k) (drop e s) e (omega arith)
    ∙ ap (λ x. x ++ replicate (e - t) k) (n.done) ∙ sym same

-- a row of a table
module _ (p : List ℕ) (k table : ℕ) (row : (u : ℕ) → reaches p u k ≡ leb u table) where
  pub row_inside : k < records_of p
  row_inside = (not-reached p (suc table) k (row (suc table) ∙ lt-leb (suc table) table (omega arith))).0

  pub row_small : k < 65536
  row_small = let g = row_inside in let h = records_few p in omega arith

  pub row_order : (t : ℕ) → t ≤ suc tables → reaches p t k ≡ true → t ≤ min table tables + 1
  row_order t l r = let g = leb-true t table (sym (row t) ∙ r) in omega arith

  pub row_later : (e : ℕ) → records_of p - first_reaching p e (k + 1) (records_of p) < records_of p - k
  row_later e = let g = first-from p e (records_of p) (k + 1) in let h = row_inside in omega arith

  -- notes the starts that the row is
  pub noted_next : (rows : ℕ) (s : List ℕ) (t e m : ℕ) → Noted p rows s t k → e ≡ min table tables + 1 → m ≡ first_reaching p e (k + 1) (records_of p) → Noted p rows (noted s t e k) e m
  noted_next rows s t e m n h i =
      let z = n.sized in
      let l : t ≤ e = rw h (row_order t (n.inside) (n.reached)) in
      let g : e ≤ suc tables = omega arith in
      let past : (u : ℕ) → e ≤ u → u ≤ tables → reaches p u k ≡ false = λ u a b. row u ∙ lt-leb u table (omega arith) in
      record {
        sized = noted_length s t e k l (omega arith) ∙ z;
        inside = g;
        done = noted_upto p rows s t e k n l g (λ u a b. row u ∙ le-leb u table (omega arith));
        ahead = λ u a b. rw i (search_on p e u (records_of p) (k + 1) a) ∙ sym (search_next p u k (past u a b)) ∙ n.ahead u (omega arith) b;
        reached = rw i (reaches_found p e (records_of p) (k + 1) (omega arith));
      }

-- where the enclave ends, so do all its tables
pub noted_all : (p : List ℕ) (rows : ℕ) (s : List ℕ) (t k : ℕ) → Noted p rows s t k → ((u : ℕ) → reaches p u k ≡ true) → noted s t (suc tables) k ≡ table_starts p rows
unfolding table_starts
noted_all p rows s t k n h =
    let z = n.sized in
    let l = noted_length s t (suc tables) k (n.inside) (omega arith) in
    sym (take_all (suc tables) (noted s t (suc tables) k) (omega arith)) ∙ noted_upto p rows s t (suc tables) k n (n.inside) (omega arith) (λ u a b. h u)

-- an enclave's tables rise, and end inside its pack
pub starts_rising : (p : List ℕ) (rows : ℕ) (s : List ℕ) → s ≡ table_starts p rows → IsRising s
starts_rising p rows s e t h = rw e (starts-rise p rows t (t + 1) (omega arith) (omega arith))

pub starts_inside : (p s : List ℕ) → s ≡ table_starts p 1 → 0 < length p → length p % 64 ≡ 0 → EndsInside p s
starts_inside p s e h w =
    let a = starts-within p 1 tables (omega arith) (some_record p h w) in
    let b = records_inside p in
    rw e (omega arith)
