-- Lines that differ only in what is not looked at have one answer at night. Assumes nothing.
use Prim.Native.Nat.{ℕ, ◌+◌, ◌<◌}
use mathlib.Core.Bool.{true}
use mathlib.Core.Path.{◌≡◌, ◌∙◌, ap}
use mathlib.Core.List.{List}
use native.Mathlib.Omega.{arith}
use borrow.Author.Tests.{eqb-true}
use Rattle.answers.specs.Checks.{first, passed}
use Rattle.schema.specs.Bytes.{byte_of}
use Rattle.schema.specs.Rows.{route_at}
use Rattle.schema.specs.Records.{records_of, is_of}
use Rattle.schema.specs.Tables.{start_of}
use Rattle.packing.specs.declared.PackKind.TheVariants.{Enclave, Federate}
use Rattle.packing.specs.Packing.{Packed}
use Rattle.packing.specs.Starts.{table_starts}
use Rattle.packing.proofs.SameTables.{same_starts}
use Rattle.packing.proofs.TableRows.{rows_of_tables}
use Rattle.scope_checks.specs.Links.{parents, links_of}
use Rattle.enclave.proofs.Accepted.{each}
use Rattle.federate.specs.Records.{enclave_pack}
use Rattle.federate.specs.Enclaves.{image_at}
use Rattle.federate.specs.Federate.{federate_checks}
use Rattle.federate.proofs.Accepted.{enclave_passes}
use Rattle.federate.proofs.Parts.{part_rises, part_first}
use Rattle.accepted.proofs.Rows.{scope_holds}
use Rattle.unlooked.specs.Images.{SameRows}
use Rattle.unlooked.specs.Packs.{DifferUnlooked}
use Rattle.unlooked.proofs.Bytes.{same_tables, line_differs}
use Rattle.unlooked.proofs.Links.{links_same}
use Rattle.unlooked.proofs.Packs.{images_same}
use Rattle.unlooked.proofs.Parts.{parts_differ}
use Rattle.unlooked.proofs.RecordRows.{route_same}
use Rattle.unlooked.proofs.Federates.{federate_answer_same}
use Rattle.night.specs.Enclaves.{enclave_routes}
use Rattle.night_rules.specs.Rules.{scopes_of, routes_in}
use Rattle.night_rules.specs.Answers.{NightAnswerSame}
use Rattle.night_rules.proofs.Same.{depth_of, SameAtNight, checks_same, night_follows}

module _ (p q batch house : List ℕ) (h : Packed Federate p batch house) (d : DifferUnlooked Federate p q) where
  image_same : (n : ℕ) → n < records_of p → is_of p 1 n ≡ true → SameRows (image_at p batch house n) (image_at q batch house n)
  image_same n l e =
      images_same (enclave_pack p n) (enclave_pack q n) (parts_differ Enclave p q (line_differs p q d) n) batch house
      (part_first p batch house h n l e) (part_rises p batch house h n l)

  -- the routes of a station are routes of the line
  own_same : (n : ℕ) → n < records_of p → (i : ℕ) → i < routes_in p batch house n → enclave_routes q n i ≡ enclave_routes p n i
  own_same n l i u =
      let own = enclave_pack p n in
      let other = enclave_pack q n in
      let f = parts_differ Federate p q d n in
      let k = start_of (table_starts own 1) 23 + i in
      ap (λ (x : List ℕ). route_at other (start_of x 23 + i)) (same_starts own other (same_tables Federate own other f) 1)
      ∙ route_same own other f k ((rows_of_tables own (part_rises p batch house h n l) 23 k (omega arith)).0 (omega arith, omega arith)).2

  -- the links of scopes, where the day's checks pass
  depth_same : first (federate_checks p batch house) ≡ passed → (n : ℕ) → n < records_of p → is_of p 1 n ≡ true → (i : ℕ) → i < scopes_of p batch house n → depth_of q batch house n i ≡ depth_of p batch house n i
  depth_same o n l e i u =
      let s = image_same n l e in
      let m = image_at p batch house n in
      let k = image_at q batch house n in
      let passes = each m (enclave_passes p batch house o n l e) in
      ap (λ (c : ℕ → ℕ). links_of (parents k) (c 7) i) s.rows
      ∙ links_same (parents m) (parents k) (m.rows 7) (λ j v. ap (λ x. x.parent) (s.scopes j v)) (λ j v. (scope_holds m j (passes.scope j v)).parent) i u

  same : first (federate_checks p batch house) ≡ passed → SameAtNight p q batch house
  same o =
      record {
        tables = same_tables Federate p q d;
        rows = λ n l e t. ap (λ (c : ℕ → ℕ). c t) (image_same n l e).rows;
        depths = depth_same o;
        own = λ n l e. own_same n l;
        routes = λ n e. route_same p q d n (eqb-true (byte_of p n 0) 23 e);
      }

pub night_answer_same : NightAnswerSame
night_answer_same p q batch house h k d =
    night_follows p q batch house (federate_answer_same p q batch house h k d) (λ o. checks_same p q batch house (same p q batch house h d o))
