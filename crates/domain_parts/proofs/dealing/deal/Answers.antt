use Rattle.std.proofs.Common.{◌∙◌, [], true, ap, refl, subst, sym}
use Rattle.mc_base.specs.FullName.{endpoint_named}
use Rattle.mc_base.specs.Letter.{plain_letter}
use Rattle.mc_base.specs.NameMap.{Names}
use Rattle.name_service.specs.Said.{reading_of}
use Rattle.board_model.specs.Dealing.{keeps_buffer}
use Rattle.board_model.specs.TakenFrames.{first_row, name_rows, row, row_of}
use Rattle.domain_parts.specs.Growing.{IsNoPiece}
use Rattle.domain_parts.specs.Verdicts.{desk, nothing}
use Rattle.domain_parts.proofs.Effects.{heard-returned}
use Rattle.domain_parts.proofs.Judging.{judged-verdict, said-whole}
use Rattle.domain_parts.proofs.Pieces.{came_alone, no-piece-in, row-no_piece}
use Rattle.domain_parts.proofs.Readings.{fault-returned, short-read}
use Rattle.domain_parts.proofs.dealing.deal.Goals as goal

pub returns-in-Faulty : goal.returns-in-Faulty
returns-in-Faulty c = λ frame b s name bytes said shows. record {
  effect = nothing;
  applies = true;
  row_is = row-no_piece s c.args.peer name frame _ said c.requires.whole ∙ ap (λ x. row_of s c.args.peer (came_alone name) (reading_of x)) c.in-Faulty.is ∙ ap (λ w. row true w []) (sym c.fault_fate.ensures);
  returned = ap keeps_buffer c.fault_fate.ensures ∙ fault-returned c.in-Faulty.fault;
  placed = tt;
  left = refl;
}

pub returns-in-Announces : goal.returns-in-Announces
returns-in-Announces c = λ frame b s name bytes said shows.
    let ns = c.in-Announces.ns in
    let peer = c.args.peer in
    heard-returned s peer _ _ c.hear.result c.args.endpoints.now c.args.replies.now c.args.known.now c.hear.new.known c.args.requests.now c.hear.new.requests
    (row-no_piece s peer name frame _ said c.requires.whole ∙ ap (λ x. row_of s peer (came_alone name) (reading_of x)) c.in-Announces.is ∙ ap (λ (names : Names). first_row (name_rows peer names (endpoint_named ns.name.items) ns.addr ns.create)) shows.known) c.hear.ensures

-- a letter

pub judge-requires-clause-whole : goal.judge-requires-clause-whole
judge-requires-clause-whole c = no-piece-in c.in-Sends.letter c.in-Sends.src c.in-Sends.dst (subst (λ x. IsNoPiece (reading_of x)) c.in-Sends.is c.requires.whole)

pub judge-requires-clause-short : goal.judge-requires-clause-short
judge-requires-clause-short c =
    let l = c.in-Sends.letter in
    let src = c.in-Sends.src in
    let dst = c.in-Sends.dst in
    let none = no-piece-in l src dst (subst (λ x. IsNoPiece (reading_of x)) c.in-Sends.is c.requires.whole) in
    let r = c.requires.read in
    short-read r.frame src dst (plain_letter l) (said-whole l none src dst _ (sym (ap reading_of c.in-Sends.is) ∙ r.is))

pub returns-in-Sends : goal.returns-in-Sends
returns-in-Sends c = λ frame b s name bytes said shows.
    let l = c.in-Sends.letter in
    let src = c.in-Sends.src in
    let dst = c.in-Sends.dst in
    let none = no-piece-in l src dst (subst (λ x. IsNoPiece (reading_of x)) c.in-Sends.is c.requires.whole) in
    judged-verdict s name c.args.peer src dst frame bytes (plain_letter l) (said-whole l none src dst _ (sym (ap reading_of c.in-Sends.is) ∙ said))
    c.judge.result (desk c.args.endpoints.now c.args.requests.now c.args.known.now c.args.replies.now) (desk c.judge.new.endpoints c.judge.new.requests c.args.known.now c.judge.new.replies) (c.judge.ensures b s (came_alone name) c.args.known.now shows)
