use Rattle.std.proofs.Common.{◌≡◌, ◌∙◌, sym, ap, arith}
use Rattle.byteorder.specs.Endian.{little_number}
use Rattle.mc_base.specs.Letter.{bytes_of_bits}
use Rattle.bridge_frame.proofs.Letters.{scalar_is_read}
use Rattle.bridge_frame.proofs.content.scalar.Goals as goal
use Rattle.bridge_frame.proofs.content.scalar.Goals.{in-1, in-2, in-4, in-8}

-- The argument tells the bits, and the value is read from that many bytes.
pub returns : goal.returns
returns c =
    let argument = c.args.argument in
    let content = c.args.content.now in
    let bits : argument ≡ bytes_of_bits c.match-argument.bits =
    elim c.match-argument.branch [
      | in-1 w ↦ w.in-1.is ∙ ap bytes_of_bits (sym w.bits-is)
      | in-2 w ↦ w.in-2.is ∙ ap bytes_of_bits (sym w.bits-is)
      | in-4 w ↦ w.in-4.is ∙ ap bytes_of_bits (sym w.bits-is)
      | in-8 w ↦ w.in-8.is ∙ ap bytes_of_bits (sym w.bits-is)
    ] in
    let value : c.read_uint-value.result ≡ little_number argument content =
    c.read_uint-value.ensures ∙ ap (λ n. little_number n content) c.from-width.ensures in
    let channel : c.in_ok-channel.channel ≡ c.args.channel = c.in_ok-channel.ensures.0 in
    rw channel (scalar_is_read c.match-argument.bits argument c.args.channel c.read_uint-value.result content bits value (omega arith) (omega (arith, c.in_ok-channel.ensures.1)) (omega arith) (λ i. omega (arith, c.type_inv.content i)))
