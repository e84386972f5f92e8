-- How a walker goes over the records of any bytes. Assumes nothing.
use Rattle.std.specs.Prelude.{ℕ, ◌+◌, ◌/◌, ◌≤◌, ◌≡◌, cond, List, ltb, length, MatchOption}
use Rattle.std.specs.declared.option.Option.{Option}
use Rattle.schema.specs.declared.record.Record.{Record}
use Rattle.packing.specs.declared.walker.RecordWalker.{RecordWalker}

-- the place after place n; the end stays the end
abbrev pub next_of : List ℕ → ℕ → ℕ
next_of p n = cond (ltb n (length p / 64)) (n + 1) n

-- the walker w yields the record at its place, or nothing at the end, and is v then
pub record Walks (w : RecordWalker) (r : Option Record) (v : RecordWalker) : Type 0 where
  pub yields : MatchOption r (length w.pack.now / 64 ≤ w.place) (λ x. (x.bytes ≡ w.pack) × (x.number ≡ w.place))
  pub same_pack : v.pack ≡ w.pack
  pub moved : v.place ≡ next_of w.pack.now w.place
