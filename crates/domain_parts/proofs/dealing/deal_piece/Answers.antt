use Rattle.std.proofs.Common.{◌≡◌, ◌∙◌, None, Some, ap, subst, sym}
use Rattle.std.specs.Prelude.{option_map}
use Rattle.mc_base.specs.Reading.{brings}
use Rattle.board_model.specs.Parts.{alone, coming_from}
use Rattle.domain_parts.specs.declared.parts.OpenPart.{OpenPart}
use Rattle.domain_parts.specs.Dealt.{GrowsTo}
use Rattle.domain_parts.specs.InBook.{content_in, part_read, whole_at}
use Rattle.domain_parts.specs.Pieces.{part_with}
use Rattle.domain_parts.proofs.PieceDeals.{joins-dealt}
use Rattle.domain_parts.proofs.Pieces.{coming-read, passes}
use Rattle.domain_parts.proofs.Readings.{none-from}
use Rattle.domain_parts.proofs.dealing.deal_piece.Goals as goal
use Rattle.domain_parts.proofs.dealing.deal_piece.Goals.{in-Some+else-goes_on, in_default}

pub returns-then-goes_on : goal.returns-then-goes_on
returns-then-goes_on c = λ frame q said is names replies b s name shows part.
    let r = c.args.endpoints.now in
    let o = c.in-Some.part in
    let found = sym c.part_of.ensures ∙ c.in-Some.is in
    let came = part.size o found in
    let on = sym (c.goes_on.ensures (content_in (whole_at b o.slot)) q came is) ∙ c.if-goes_on.true in
    let grows = subst (λ (g : OpenPart). GrowsTo r c.args.requests.now g c.args.piece.size c.grow.result) c.grown.ensures c.grow.ensures in
    joins-dealt b s name c.args.peer frame c.args.piece q said is r o found (part.part ∙ ap (option_map (λ (z : OpenPart). (part_read b z).part)) found) came on c.args.requests.now names replies c.grow.result shows grows

pub returns : goal.returns
returns c = λ frame q said is names replies b s name shows part.
    let r = c.args.endpoints.now in
    let p = c.args.piece in
    let peer = c.args.peer in
    let so : coming_from s peer frame ≡ alone p.source p.destination q = elim c.match-part_of.branch [
      | in-Some+else-goes_on w ↦
          let o = w.in-Some.part in
          let found = sym c.part_of.ensures ∙ w.in-Some.is in
          let came = part.size o found in
          let was = content_in (whole_at b o.slot) in
          let off = sym (w.goes_on.ensures was q came is) ∙ w.if-goes_on.false in
          coming-read s peer name frame (Some (part_with o was)) (brings p.source p.destination q) (part.part ∙ ap (option_map (λ (z : OpenPart). (part_read b z).part)) found) said ∙ passes p q is o was came off
      | in_default w ↦
          let none = sym c.part_of.ensures ∙ none-from c.part_of.result w.in_default.not-Some in
          coming-read s peer name frame None (brings p.source p.destination q) (part.part ∙ ap (option_map (λ (z : OpenPart). (part_read b z).part)) none) said
    ] in
    c.deal_first.ensures frame q said is names replies b s name shows so
