-- What a yes is worth: the consequences of acceptance for a station, alone or in a line. Assumes nothing.
use Rattle.std.specs.Prelude.{ℕ, ◌<◌, ◌≤◌, true, cond, ◌≡◌, List, [], ◌∷◌}
use Rattle.schema.specs.Records.{records_of, is_of}
use Rattle.checks.specs.Image.{Image}
use Rattle.scope_checks.specs.Links.{links}
use Rattle.enclave.specs.Answer.{pack_image, enclave_answer}
use Rattle.federate.specs.Enclaves.{image_at}
use Rattle.federate.specs.Answer.{federate_answer}
use Rattle.accepted.specs.Totals.{total}
use Rattle.accepted.specs.Chains.{NoReturn, ChainsEnd, ChainsInside, most_links, LinksBounded}
use Rattle.accepted.specs.Modes.{OneOwner, SpansAddUp, Pairing}

-- the station pack p is accepted with c links
abbrev pub Accepted : List ℕ → List ℕ → List ℕ → ℕ → Type 0
Accepted p batch house c = enclave_answer p batch house ≡ 0 ∷ c ∷ []

-- the line pack p is accepted with s stations and c links
abbrev pub LineAccepted : List ℕ → List ℕ → List ℕ → ℕ → ℕ → Type 0
LineAccepted p batch house s c = federate_answer p batch house ≡ 0 ∷ s ∷ c ∷ []

-- what holds of an accepted image with c links
pub record Worth (m : Image) (c : ℕ) : Type 0 where
  pub no_return : NoReturn m
  pub chains_end : ChainsEnd m
  pub chains_inside : ChainsInside m
  pub links_bounded : LinksBounded m c
  pub one_owner : OneOwner m
  pub spans_add_up : SpansAddUp m
  pub pairing : Pairing m

-- an accepted station
abbrev pub YesIsWorth : Type 0
YesIsWorth = (p batch house : List ℕ) (c : ℕ) → Accepted p batch house c → Worth (pack_image p batch house) c

-- each station of an accepted line: that of record n, where it is a station's
abbrev pub LineYesIsWorth : Type 0
LineYesIsWorth =
    (p batch house : List ℕ) (s c : ℕ) → LineAccepted p batch house s c
    → (n : ℕ) → n < records_of p → is_of p 1 n ≡ true → Worth (image_at p batch house n) (links (image_at p batch house n))

-- the sum of the bounds over a line's stations
abbrev pub most_line_links : List ℕ → List ℕ → List ℕ → ℕ
most_line_links p batch house = total (λ n. cond (is_of p 1 n) (most_links (image_at p batch house n)) 0) (records_of p)

-- the summed links of an accepted line are no more than that
abbrev pub LineLinksBounded : Type 0
LineLinksBounded = (p batch house : List ℕ) (s c : ℕ) → LineAccepted p batch house s c → c ≤ most_line_links p batch house
