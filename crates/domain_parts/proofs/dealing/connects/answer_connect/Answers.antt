use Rattle.std.proofs.Common.{◌≡◌, ◌∙◌, ◌++◌, ◌∷◌, [], Option, Some, ap, sym, subst}
use Rattle.mc_base.specs.declared.channel.Reason.{Reason}
use Rattle.mc_base.specs.declared.channel.Reason.TheVariants.{NoEndpoint}
use Rattle.mc_base.specs.declared.fate.Fate.TheVariants.{Owed}
use Rattle.board_model.specs.State.{endpoint_of}
use Rattle.board_model.specs.TakenFrames.{connect_rows, first_row}
use Rattle.domain_parts.specs.Verdicts.{Desk, IsReturned, desk}
use Rattle.domain_parts.proofs.Judging.{connect-answered, connect-full, connect-nobody, nobody-there, one-there, replying}
use Rattle.domain_parts.proofs.dealing.connects.answer_connect.Goals.{in-None, in-Some}
use Rattle.domain_parts.proofs.dealing.connects.answer_connect.Goals as goal

pub returns-then-is_full : goal.returns-then-is_full
returns-then-is_full c = λ b s names shows.
    let way = c.args.way in
    let d = desk c.args.endpoints.now c.args.requests.now names c.args.replies.now in
    connect-full b d s way.peer shows way.source way.destination c.args.channel c.args.kind (sym c.if-is_full.true ∙ c.is_full.ensures)

pub returns : goal.returns
returns c = λ b s names shows.
    let way = c.args.way in
    let number = c.args.channel in
    let q = c.args.requests.now in
    let d = desk c.args.endpoints.now q names c.args.replies.now in
    let room = sym c.if-is_full.false ∙ c.is_full.ensures in
    let its = first_row (connect_rows s way.peer way.source way.destination (endpoint_of s way.destination) number c.args.kind) in
    elim c.match-place_of_address.branch [
      | in-None w ↦
          let is : desk c.match-place_of_address.endpoints q names c.push.new.self ≡ desk d.records q names (d.replies ++ replying b d s way.peer shows way.source way.destination number c.args.kind (Some NoEndpoint) ∷ []) =
          ap (λ r. desk r q names c.push.new.self) w.endpoints-is
          ∙ ap (desk d.records q names) (c.push.ensures ∙ ap (λ (o : Option Reason). d.replies ++ record { source = way.destination; destination = way.source; channel = number; reason = o } ∷ []) w.reason-is) in
          subst (λ (x : Desk). IsReturned s way.peer its Owed d x) (sym is)
          (connect-nobody b d s way.peer shows way.source way.destination number c.args.kind room (nobody-there b d s way.peer shows way.destination (w.in-None.ensures.place b)))
      | in-Some w ↦
          let at = w.in-Some.place in
          let one = one-there d.records.endpoints at w.in-Some.ensures.within in
          let is : desk c.match-place_of_address.endpoints q names c.push.new.self ≡ desk w.accept-reason.new.endpoints q names (d.replies ++ replying b d s way.peer shows way.source way.destination number c.args.kind w.accept-reason.result ∷ []) =
          ap (λ r. desk r q names c.push.new.self) w.endpoints-is
          ∙ ap (desk w.accept-reason.new.endpoints q names) (c.push.ensures ∙ ap (λ (o : Option Reason). d.replies ++ record { source = way.destination; destination = way.source; channel = number; reason = o } ∷ []) w.reason-is) in
          subst (λ (x : Desk). IsReturned s way.peer its Owed d x) (sym is)
          (connect-answered b d s way.peer shows way.source way.destination number c.args.kind room at one.0 (w.in-Some.ensures.place b) one.1 w.accepted-end.result w.accepted-end.ensures.end w.accept-reason.result w.accept-reason.new.endpoints w.accept-reason.ensures)
    ]
