use Rattle.std.proofs.Common.{◌≡◌, ◌<◌, ◌∙◌, ap, refl, arith, rules}
use Rattle.std.proofs.lemmas.Bool.Decides.{nat_tests}
use Rattle.basics.specs.Bytes.{bytes16, bytes32}
use Rattle.basics.proofs.Bytes.{be_bytes16, be_bytes32}
use Rattle.mmc.specs.Commands.{twos, write_range, write_bytes}
use Rattle.mmc.proofs.commands.write_bytes.Goals as goal

pub bits_of-requires : goal.bits_of-requires
unfolding write_range
bits_of-requires c = grind (arith, nat_tests)

pub overflow_cast-n : goal.overflow_cast-n
unfolding write_range
overflow_cast-n c = grind (arith, nat_tests)

pub returns : goal.returns
unfolding write_bytes write_range bytes32
returns c =
    let few : c.bits_of.result < 4294967296 = search rules in
    let address : c.to_be_bytes.result ≡ bytes32 (twos c.args.a.0) = c.to_be_bytes.ensures ∙ be_bytes32 c.bits_of.result few ∙ ap bytes32 c.bits_of.ensures in
    let count : c.to_be_bytes-2.result ≡ bytes16 c.args.n.0 = c.to_be_bytes-2.ensures ∙ be_bytes16 c.args.n.0 (grind (arith, nat_tests)) in
    rw (address, count) refl
