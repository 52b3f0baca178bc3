use Rattle.std.proofs.Common.{◌≡◌, ◌+◌, ◌-◌, ◌∙◌, ◌++◌, ◌∷◌, [], ℕ, List, length, map, min, rules, refl, subst, sym, ap, arith}
use Rattle.std.specs.Prelude.{◌==◌, not, ◌||◌}
use Rattle.std.proofs.lemmas.List.{length_push}
use Rattle.board_model.specs.Deeds.{puts_owed}
use Rattle.board_model.specs.Journal.{Line}
use Rattle.mc_journal.specs.Written.{Written}
use Rattle.domain_parts.specs.Doing.{Puts, owed_at}
use Rattle.domain_parts.specs.LaneSeen.{LaneSeen}
use Rattle.domain_parts.specs.Parts.{Holding, peer_at}
use Rattle.domain_parts.specs.VisitMoves.{putting}
use Rattle.domain_parts.proofs.Owing.{Puts-more, all-due, eight-due, free-put, puts-none, some-put}
use Rattle.domain_parts.proofs.Turning.{did-numbers, doing-ends, same-length}
use Rattle.domain_parts.proofs.holdings.Holdings.put_owed.Goals as goal

pub loop-init : goal.loop-init
loop-init g c = record {
  puts = ([], puts-none g.P.PeerLane.Moved c.args.place c.args.begun c.args.self.now c.args.journal.now.lines c.requires.rests, refl);
  free = omega arith;
  begins = search rules;
  entry_room = omega arith;
  byte_room = omega arith;
}

pub put_oldest-requires-clause-within : goal.put_oldest-requires-clause-within
put_oldest-requires-clause-within g c =
    let d = c.loop.invariant.puts.1.doing in
    let long = same-length c.args.self.now.parts c.loop.self.parts (did-numbers g.P.PeerLane.Moved d.steps c.args.self.now c.loop.self d.did) in
    omega (arith, long, c.requires.within)

pub loop-preserved : goal.loop-preserved
loop-preserved g c =
    let i = c.loop.invariant in
    let e = c.put_oldest.ensures in
    let hit = c.if-not-put_oldest.false in
    let was = i.puts in
    let one = e.puts hit in
    let some = e.free hit in
    let M = g.P.PeerLane.Moved in
    let ends = ap (λ (l : LaneSeen). l.free) (doing-ends M (map (puts_owed (peer_at c.args.self.now.parts c.args.place).number) was.0) (putting was.0) c.args.self.now c.loop.self c.args.place c.requires.within was.1.doing ∙ free-put was.0 (peer_at c.args.self.now.parts c.args.place).ends) in
    let begins = i.begins ∙ ap (λ (k : ℕ). c.args.begun || not (k == 0)) (sym was.2) in
    record {
      puts = (was.0 ++ one.0 ∷ [], Puts-more M g.met.P.PeerLane.both c.args.place c.args.begun c.loop.has_begun was.0 one.0 c.args.self.now c.loop.self c.put_oldest.new.self c.args.journal.now.lines c.loop.journal.lines c.put_oldest.new.journal.lines begins was.1 one.1, length_push was.0 one.0 ∙ ap (λ (k : ℕ). k + 1) was.2);
      free = omega (arith, ends, some, was.2, i.free);
      begins = some-put c.args.begun c.loop.counter;
      entry_room = omega (arith, i.entry_room, e.entry_room);
      byte_room = omega (arith, i.byte_room, e.byte_room);
    }

pub returns-then-not-put_oldest-clause-puts : goal.returns-then-not-put_oldest-clause-puts
returns-then-not-put_oldest-clause-puts g c =
    let i = c.loop.invariant in
    let e = c.put_oldest.ensures in
    let miss = c.if-not-put_oldest.true in
    let was = i.puts in
    let M = g.P.PeerLane.Moved in
    let p = c.args.self.now.parts in
    let peer = (peer_at p c.args.place).number in
    let free0 = (peer_at p c.args.place).ends.free in
    let left = owed_at c.loop.self.parts c.args.place in
    let free : (peer_at c.loop.self.parts c.args.place).ends.free ≡ free0 - length was.0 = ap (λ (l : LaneSeen). l.free) (doing-ends M (map (puts_owed peer) was.0) (putting was.0) c.args.self.now c.loop.self c.args.place c.requires.within was.1.doing ∙ free-put was.0 (peer_at p c.args.place).ends) in
    let none : min (length left) (free0 - length was.0) ≡ 0 = sym (ap (λ (k : ℕ). min (length left) k) free) ∙ e.none miss in
    record {
      frames = was.0;
      puts = subst (λ (h : Holding g.row.P.Denot). Puts M c.args.place c.args.begun was.0 c.args.self.now h c.args.journal.now.lines c.put_oldest.new.journal.lines) (sym (e.stays miss))
          (subst (λ (ls : List Line). Puts M c.args.place c.args.begun was.0 c.args.self.now c.loop.self c.args.journal.now.lines ls) (sym (ap (λ (j : Written). j.lines) (e.journal miss))) was.1);
      many = all-due free0 was.0 (owed_at p c.args.place) left was.1.owed (omega (arith, was.2, c.loop-test.true)) (omega (arith, i.free, was.2)) none;
      begins = i.begins ∙ ap (λ (k : ℕ). c.args.begun || not (k == 0)) (sym was.2);
    }

pub returns-after-loop-clause-puts : goal.returns-after-loop-clause-puts
returns-after-loop-clause-puts g c =
    let i = c.loop.invariant in
    let was = i.puts in
    let p = c.args.self.now.parts in
    record {
      frames = was.0;
      puts = was.1;
      many = eight-due (peer_at p c.args.place).ends.free was.0 (owed_at p c.args.place) (owed_at c.loop.self.parts c.args.place) was.1.owed (omega (arith, was.2, c.loop-test.false, c.loop.auto.counter-end)) (omega (arith, i.free, was.2));
      begins = i.begins ∙ ap (λ (k : ℕ). c.args.begun || not (k == 0)) (sym was.2);
    }
