use Rattle.std.proofs.Common.{◌≡◌, ◌∙◌, ◌<◌, List, None, Some, length, ap, subst, arith, vec_len, vec_capacity}
use Rattle.std.specs.Prelude.{position}
use Rattle.board_runner.specs.declared.wires.Wire.{Wire}
use Rattle.board_runner.specs.Wired.{leads_from, links_wired}
use Rattle.board_runner.proofs.WiredLemmas.{skip-wire, take-wire, taken-none}
use Rattle.board_runner.proofs.links.links_of.Goals as goal
use Rattle.board_runner.proofs.links.links_of.Goals.{in-Some, in_default-place_of_wire}

pub loop-peer-init : goal.loop-peer-init
loop-peer-init c = record { so = taken-none c.args.wires.now.items c.args.domain c.in-Ok.links.items c.in-Ok.ensures.items; few = omega (arith, c.in-Ok.ensures.len); room = omega (arith, c.in-Ok.ensures.capacity) }

pub loop-peer-preserved : goal.loop-peer-preserved
loop-peer-preserved c =
    let d = c.args.domain in
    let p = c.loop-peer.peer in
    let now = c.loop-peer.wires.items in
    elim c.match-place_of_wire.branch [
      | in-Some w ↦
          let items = rw w.unwrap.ensures at w.push.ensures.items in
          let len = rw w.unwrap.ensures at w.push.ensures.len in
          let pushed = ap vec_len w.links-is in
          let room = ap vec_capacity w.links-is in
          let at = subst (λ (ws : List Wire). Some w.in-Some.place ≡ position (leads_from d p) ws) c.deref.ensures.value w.in-Some.ensures.place in
          let within = subst (λ (ws : List Wire). w.in-Some.place < length ws) c.deref.ensures.value w.in-Some.ensures.within in
          record {
            so = take-wire c.args.wires.now.items now c.match-place_of_wire.wires.items d p w.in-Some.place w.remove-wire.result c.loop-peer.links.items c.match-place_of_wire.links.items c.loop-peer.invariant.so at within w.remove-wire.ensures.value
                (ap (λ v. v.items) w.wires-is ∙ w.remove-wire.ensures.items) (ap (λ v. v.items) w.links-is ∙ items);
            few = omega (arith, len, pushed, c.loop-peer.invariant.few);
            room = omega (arith, w.push.ensures.capacity, room, c.loop-peer.invariant.room);
          }
      | in_default-place_of_wire w ↦
          let same = ap vec_len w.links-is in
          let room = ap vec_capacity w.links-is in
          let none = subst (λ (ws : List Wire). None ≡ position (leads_from d p) ws) c.deref.ensures.value w.in_default-place_of_wire.ensures.place in
          record {
            so = skip-wire c.args.wires.now.items now c.match-place_of_wire.wires.items d p c.loop-peer.links.items c.match-place_of_wire.links.items c.loop-peer.invariant.so none (ap (λ v. v.items) w.wires-is) (ap (λ v. v.items) w.links-is);
            few = omega (arith, same, c.loop-peer.invariant.few);
            room = omega (arith, room, c.loop-peer.invariant.room);
          }
    ]

pub returns-clause-links : goal.returns-clause-links
returns-clause-links c =
    let all : c.loop-peer.peer ≡ 8 = omega arith in
    c.loop-peer.invariant.so.so_far ∙ ap (links_wired c.args.wires.now.items c.args.domain) all
