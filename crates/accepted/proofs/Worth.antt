-- What a yes is worth, from the laws of the modes and of the chains. Assumes nothing.
use Prim.Native.Nat.{ℕ, zero, suc, ◌<◌, ◌≤◌}
use mathlib.Core.Bool.{cond}
use mathlib.Core.Path.{◌≡◌, refl}
use mathlib.Core.List.{List}
use native.Mathlib.Omega.{arith}
use Rattle.identity.proofs.Tests.{cases}
use Rattle.answers.specs.Checks.{first, passed}
use Rattle.schema.specs.Records.{records_of, is_of}
use Rattle.checks.specs.Image.{Image}
use Rattle.scope_checks.specs.Links.{links}
use Rattle.enclave.specs.Passes.{enclave_checks}
use Rattle.enclave.specs.Answer.{pack_image}
use Rattle.enclave.proofs.Accepted.{each, accepted_checks, accepted_links}
use Rattle.federate.specs.Enclaves.{image_at, links_before}
use Rattle.federate.proofs.Accepted.{line_links, station_checks}
use Rattle.accepted.specs.Totals.{total}
use Rattle.accepted.specs.Chains.{most_links}
use Rattle.accepted.specs.Worth.{LineAccepted, Worth, YesIsWorth, LineYesIsWorth, LineLinksBounded}
use Rattle.accepted.proofs.Totals.{total_most}
use Rattle.accepted.proofs.Modes.{one_owner, spans_add_up, pairing}
use Rattle.accepted.proofs.Chains.{never_returns, chains_end, chains_inside, links_bounded}

-- an image whose checks pass
pub worth : (m : Image) → first (enclave_checks m) ≡ passed → Worth m (links m)
worth m e =
    let h = each m e in
    record {
      no_return = never_returns m h;
      chains_end = chains_end m h;
      chains_inside = chains_inside m h;
      links_bounded = links_bounded m h;
      one_owner = one_owner m h;
      spans_add_up = spans_add_up m h;
      pairing = pairing m h;
    }

pub yes_is_worth : YesIsWorth
yes_is_worth p batch house c h = rw (accepted_links p batch house c h) at (worth (pack_image p batch house) (accepted_checks p batch house c h))

pub line_yes_is_worth : LineYesIsWorth
line_yes_is_worth p batch house s c h n l e = worth (image_at p batch house n) (station_checks p batch house s c h n l e)

-- a line's links are the sum over its stations, each within its bound
module _ (p batch house : List ℕ) where
  abbrev over_stations : (Image → ℕ) → ℕ → ℕ
  over_stations f n = cond (is_of p 1 n) (f (image_at p batch house n)) 0

  line_total : (n : ℕ) → links_before p batch house n ≡ total (over_stations links) n
  unfolding links_before total
  line_total zero = refl
  line_total (suc n) = rw (line_total n) refl

  station_bounded : (s c : ℕ) → LineAccepted p batch house s c → (n : ℕ) → n < records_of p → over_stations links n ≤ over_stations most_links n
  station_bounded s c h n l =
      cases (is_of p 1 n)
      (λ e. rw e (line_yes_is_worth p batch house s c h n l e).links_bounded)
      (λ e. rw e (omega arith))

pub line_links_bounded : LineLinksBounded
line_links_bounded p batch house s c h =
    let a = line_links p batch house s c h in
    let b = line_total p batch house (records_of p) in
    let d = total_most (over_stations p batch house links) (over_stations p batch house most_links) (records_of p) (station_bounded p batch house s c h) in
    omega arith
