-- An answer at night other than a slot refusal is the answer with larger bounds: the night's checks look at no bound. Assumes nothing.
use Prim.Native.Nat.{ℕ, zero, suc, ◌+◌, ◌≤◌}
use mathlib.Core.Path.{◌≡◌, ◌∙◌, ap}
use mathlib.Core.List.{List}
use native.Mathlib.Omega.{arith}
use Rattle.schema.specs.Layout as layout
use Rattle.schema.specs.Bytes.{byte_of}
use Rattle.schema.specs.Tables.{start_of, rows_of}
use Rattle.schema.specs.Rows.{route_of, route_at}
use Rattle.packing.specs.Starts.{table_starts}
use Rattle.packing.proofs.SameTables.{same_starts}
use Rattle.packing.proofs.TableStarts.{starts_from}
use Rattle.checks.specs.Image.{Image, image}
use Rattle.scope_checks.specs.Links.{parents, links_of}
use Rattle.federate.specs.Records.{enclave_pack}
use Rattle.federate.proofs.Parts.{own_single}
use Rattle.larger_bounds.specs.Packs.{DifferInStorage}
use Rattle.larger_bounds.proofs.RowBytes.{row_same}
use Rattle.larger_bounds.proofs.SamePacks.{same_tables, record_same, image-same}
use Rattle.larger_bounds.proofs.SameFederates.{parts-differ, route-same}
use Rattle.larger_bounds.proofs.FederatesLarger.{federate-stays}
use Rattle.night.specs.Enclaves.{enclave_routes}
use Rattle.night.proofs.Day.{day_stays}
use Rattle.night_rules.specs.Answers.{NightAnswerStays}
use Rattle.night_rules.proofs.Same.{depth_of, SameAtNight, checks_same, night_follows}

-- a route's row of a pack whose only enclave is record 0's
module _ (p q : List ℕ) (d : DifferInStorage p q) (single : (n : ℕ) → byte_of p (suc n) 0 ≡ 1 → ⊥) where
  row_is_same : (k : ℕ) → 1 ≤ k → route_at q k ≡ route_at p k
  unfolding route_at
  row_is_same zero l = absurd (omega arith)
  row_is_same (suc k) l = row_same p q (suc k) (suc k) route_of layout.routes (omega arith) (record_same p q d (suc k) (single k))

module _ (p q batch house : List ℕ) (d : DifferInStorage p q) where
  module _ (n i : ℕ) where
    abbrev own : List ℕ
    own = enclave_pack p n

    abbrev other : List ℕ
    other = enclave_pack q n

    starts_same : table_starts other 1 ≡ table_starts own 1
    starts_same = same_starts own other (same_tables own other (parts-differ p q d n)) 1

    abbrev depth : Image → ℕ
    depth m = links_of (parents m) (m.rows 7) i

    depth_same : depth_of q batch house n i ≡ depth_of p batch house n i
    depth_same =
        ap (λ x. depth (image other batch house x 0)) starts_same
        ∙ ap depth (image-same own other (parts-differ p q d n) batch house (own_single p n))

    own_same : enclave_routes q n i ≡ enclave_routes p n i
    own_same =
        ap (λ (x : List ℕ). route_at other (start_of x 23 + i)) starts_same
        ∙ row_is_same own other (parts-differ p q d n) (own_single p n) (start_of (table_starts own 1) 23 + i) (let f = starts_from own 1 23 (omega arith) in omega arith)

  same : SameAtNight p q batch house
  same =
      record {
        tables = same_tables p q d;
        rows = λ n l e t. ap (λ (x : List ℕ). rows_of x t) (starts_same n 0);
        depths = λ n l e i u. depth_same n i;
        own = λ n l e i u. own_same n i;
        routes = route-same p q d;
      }

pub night_stays : NightAnswerStays
night_stays p q batch house h k d b o =
    night_follows p q batch house
    (federate-stays p q batch house h k d b (λ s. o (rw (day_stays p batch house (λ z. omega arith)) s)))
    (λ _. checks_same p q batch house (same p q batch house d))
