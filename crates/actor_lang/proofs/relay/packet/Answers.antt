use Rattle.std.proofs.Common.{rules, arith, sym, ◌≡◌, ◌≤◌, ◌%◌, ◌∙◌, length, false}
use Rattle.std.proofs.lemmas.Bool.Decides.{nat_tests}
use Rattle.board_model.specs.FileWords.{is_dash}
use Rattle.actor_lang.proofs.PacketLemmas.{line_short, line_odd, line_unfit}
use Rattle.actor_lang.proofs.relay.packet.Goals as goal
use Rattle.actor_lang.proofs.relay.packet.Goals.{then-len-eq0-via-then-len-eq0, then-len-eq0-via-else-len-eq0+then-line-ne0, then-len-eq0-via-else-len-eq0+else-line-ne0+then-not-fits}

pub returns-then-len-eq0 : goal.returns-then-len-eq0
returns-then-len-eq0 c =
    let few : c.args.number ≤ 100001 = omega (arith, c.if-number-gt-LAST_LINE.false) in
    let dash : is_dash c.args.line.now ≡ false = sym c.is_dash.ensures ∙ c.if-is_dash.false in
    rw c.at-then-len-eq0.ensures
    (elim c.then-len-eq0.branch [
      | then-len-eq0-via-then-len-eq0 w ↦ line_short c.args.size c.args.number c.args.line.now few dash (omega (arith, w.if-len-eq0.true))
      | then-len-eq0-via-else-len-eq0+then-line-ne0 w ↦
          let odd : length c.args.line.now % 2 ≡ 1 = grind (arith, nat_tests, w.if-line-ne0.true) in
          line_odd c.args.size c.args.number c.args.line.now few dash odd
      | then-len-eq0-via-else-len-eq0+else-line-ne0+then-not-fits w ↦
          let no : w.fits.result ≡ false = search rules in
          line_unfit c.args.size c.args.number c.args.line.now few dash (sym w.fits.ensures ∙ no)
    ])
