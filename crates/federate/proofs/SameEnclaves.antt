-- Two federate packs whose records are of the same tables have the same enclaves; with the same routes, the same checks of routes. Assumes nothing.
use Prim.Native.Nat.{ℕ, zero, suc, ◌-◌, ◌*◌}
use mathlib.Core.Bool.{Bool, true}
use mathlib.Core.Path.{◌≡◌, refl, ◌∙◌, ap, sym, fun_ext}
use mathlib.Core.List.{List}
use lib.ListN.{length, drop, length-take, length-drop}
use Rattle.identity.proofs.Tests.{cases}
use Rattle.identity.specs.declared.IdentityPlace.{IdentityPlace}
use Rattle.schema.specs.declared.rows.RouteImage.{RouteImage}
use Rattle.schema.specs.Rows.{route_at}
use Rattle.schema.specs.Records.{records_of, is_of, count_below}
use Rattle.packing.proofs.SameTables.{SameTables, same_records, same_test, same_tests}
use Rattle.route_pairs.specs.RoutePairs.{half_at, halves, pair_checks, route_record_checks}
use Rattle.federate.specs.Records.{enclaves_before, enclaves_of, enclave_before, enclave_from, enclave_end, enclave_pack}
use Rattle.federate.proofs.PartBytes.{many}

module _ (p q : List ℕ) (s : SameTables p q) where
  pub same_places : (n : ℕ) → enclaves_before q n ≡ enclaves_before p n
  same_places n = ap (λ (f : ℕ → Bool). count_below f n) (same_tests p q s 1)

  pub same_count : enclaves_of q ≡ enclaves_of p
  same_count = ap (enclaves_before q) (same_records p q s) ∙ same_places (records_of p)

  pub same_before : (n : ℕ) → enclave_before q n ≡ enclave_before p n
  unfolding enclave_before
  same_before zero = refl
  same_before (suc n) = rw (s.tables n, same_before n)

  -- where each ends, and how long its pack is
  same_from : (n k : ℕ) → enclave_from q n k ≡ enclave_from p n k
  unfolding enclave_from
  same_from n zero = refl
  same_from n (suc k) = rw (s.tables n, same_from (suc n) k)

  same_end : (n : ℕ) → enclave_end q n ≡ enclave_end p n
  same_end n = ap (λ (r : ℕ). enclave_from q (suc n) (r - suc n)) (same_records p q s) ∙ same_from (suc n) (records_of p - suc n)

  pub same_bytes : (n : ℕ) → many q n ≡ many p n
  same_bytes n = ap (λ (e : ℕ). (e - n) * 64) (same_end n)

  pub same_lengths : (n : ℕ) → length (enclave_pack q n) ≡ length (enclave_pack p n)
  same_lengths n =
      length-take (many q n) (drop (n * 64) q)
      ∙ rw (same_bytes n, length-drop (n * 64) q, s.lengths, ← length-drop (n * 64) p) (sym (length-take (many p n) (drop (n * 64) p)))

  -- the routes
  module _ (routes : (n : ℕ) → is_of p 23 n ≡ true → route_at q n ≡ route_at p n) (text : IdentityPlace → List ℕ) where
    same_half : (r : RouteImage) (counted : RouteImage → Bool) (k : ℕ) → half_at text q r counted k ≡ half_at text p r counted k
    same_half r counted k =
        rw (same_test p q s 23 k)
        (cases (is_of p 23 k) (λ e. rw (e, routes k e)) (λ e. rw e))

    pub same_halves : (r : RouteImage) (counted : RouteImage → Bool) → halves text q r counted ≡ halves text p r counted
    same_halves r counted =
        ap (λ (f : ℕ → Bool). count_below f (records_of q)) (fun_ext (same_half r counted))
        ∙ ap (count_below (half_at text p r counted)) (same_records p q s)

    same_pairs : (r : RouteImage) → pair_checks text q r ≡ pair_checks text p r
    same_pairs r = rw (same_halves r _, same_halves r _, same_halves r _, same_halves r _)

    pub same_routes : (n : ℕ) → route_record_checks text q n ≡ route_record_checks text p n
    unfolding route_record_checks
    same_routes n =
        rw (same_test p q s 23 n)
        (cases (is_of p 23 n) (λ e. rw e (rw (routes n e) (same_pairs (route_at p n)))) (λ e. rw e))
