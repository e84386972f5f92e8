-- The checks of the enclave are those of its own pack.
use Rattle.std.proofs.Common.{◌≡◌, ◌∙◌, rules}
use Rattle.packing.specs.Starts.{table_starts}
use Rattle.checks.specs.Image.{image_of}
use Rattle.enclave.proofs.Whole.{image_is}
use Rattle.federate.specs.Records.{enclave_pack}
use Rattle.federate.specs.Enclaves.{image_at}
use Rattle.night.proofs.EnclaveLaws.{own_checks}
use Rattle.night.proofs.enclaves.check_own.Goals as goal

pub returns : goal.returns
returns c =
    let e = c.args.own in
    let p = e.pack.bytes.now in
    let batch = c.args.texts.batch.now in
    let house = c.args.texts.house.now in
    let bytes : c.enclave.result.pack.bytes.now ≡ enclave_pack p e.number = search rules in
    let b : c.enclave.result.texts.batch.now ≡ batch = search rules in
    let h : c.enclave.result.texts.house.now ≡ house = search rules in
    let firsts : c.enclave.result.starts.now.firsts ≡ table_starts (enclave_pack p e.number) 1 = search rules in
    let own : c.enclave.result.own ≡ 0 = search rules in
    let m : image_of c.enclave.result ≡ image_at p batch house e.number = image_is (enclave_pack p e.number) batch house c.enclave.result bytes b h firsts own in
    (rw (m, bytes, firsts) at c.check_enclave_at_night.ensures) ∙ own_checks p batch house e.number e.place e.enclave e.counted
