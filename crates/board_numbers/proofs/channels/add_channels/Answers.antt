use Rattle.std.proofs.Common.{◌≡◌, ◌<◌, ◌+◌, ◌++◌, ◌∷◌, ℕ, List, [], length, get_or, map, ap, sym, subst, ◌∙◌, add-one, append_assoc, arith}
use Rattle.std.proofs.lemmas.List.{map-append}
use Rattle.board_model.specs.declared.totals.ChannelTotals.{ChannelTotals}
use Rattle.board_model.specs.declared.totals.Totals.{Totals}
use Rattle.board_model.specs.SerialRun.{journal_left}
use Rattle.board_model.specs.Totals.{numbers_to, totals_of_channel}
use Rattle.board_model.proofs.LawfulBoards.{lawful_is_linked}
use Rattle.board_numbers.specs.declared.items.ItemCounts.{ItemCounts}
use Rattle.board_numbers.specs.EndedDomains.{Ended}
use Rattle.board_numbers.specs.ItemCounts.{AreItemCounts, IsCountedBy, IsOneOf, ItemsFit}
use Rattle.board_numbers.proofs.ChannelLemmas.{is-one, owner-channels}
use Rattle.board_numbers.proofs.EachLemmas.{mapped-read, mapped-within}
use Rattle.board_numbers.proofs.channels.add_channels.Goals as goal

pub totals_of-totals-requires-clause-owner : goal.totals_of-totals-requires-clause-owner
totals_of-totals-requires-clause-owner g c =
    let f = g.D.EndedDomain.ended in
    let ds = c.args.domains.now in
    let one = is-one (map f ds) c.args.at _ (mapped-within f ds c.args.at c.requires.at) (mapped-read f ds c.args.at _ c.requires.at c.index-domains-at.is) in
    subst (λ n. IsOneOf n (map f ds)) (sym c.number-owner.ensures) one

-- the counts are those of the domain there
counted_there : {A : Type 0} (f : A → Ended) (ds : List A) (at : ℕ) (d : A) (c : ItemCounts) → at < length ds → d ≡ get_or ds at d → ((e : Ended) → IsCountedBy (map f ds) (map f ds) (get_or (map f ds) at e) c) → IsCountedBy (map f ds) (map f ds) (f d) c
counted_there f ds at d c within is all = subst (λ e. IsCountedBy (map f ds) (map f ds) e c) (sym (mapped-read f ds at d within is)) (all (f d))

pub totals_of-totals-requires-clause-counts : goal.totals_of-totals-requires-clause-counts
totals_of-totals-requires-clause-counts g c =
    let f = g.D.EndedDomain.ended in
    let ds = c.args.domains.now in
    let counted = counted_there f ds c.args.at c.index-domains-at.result c.args.counts.now c.requires.at c.index-domains-at.is c.requires.counts in
    subst (λ n. ItemsFit n (map f ds) → AreItemCounts n (map f ds) c.args.counts.now) (sym c.number-owner.ensures) counted.counted

pub totals_of-totals-requires-clause-places : goal.totals_of-totals-requires-clause-places
totals_of-totals-requires-clause-places g c =
    let f = g.D.EndedDomain.ended in
    let d = c.index-domains-at.result in
    let counted = counted_there f c.args.domains.now c.args.at d c.args.counts.now c.requires.at c.index-domains-at.is c.requires.counts in
    ((f d).state.channels_given + 1, omega (arith, c.loop-before-test.true, c.loop-before.auto.before-end, c.channels_given-given.ensures), counted.places)

pub loop-before-preserved : goal.loop-before-preserved
loop-before-preserved g c ts ran ends =
    let s = c.args._scenario.now in
    let owner = c.number-owner.result in
    let f = totals_of_channel s (map journal_left ts) owner in
    let n = c.loop-before.before in
    let next : numbers_to (n + 1) ≡ numbers_to n ++ (n + 1) ∷ [] = ap numbers_to (add-one n) ∙ ap (λ (k : ℕ). numbers_to n ++ k ∷ []) (sym (add-one n)) in
    c.in_ok-add.ensures
    ∙ ap (λ (x : Totals). c.loop-before.channels ++ (record { owner = owner; number = n + 1; totals = x }) ∷ []) (c.totals_of-totals.ensures ts ran ends)
    ∙ ap (λ (cs : List ChannelTotals). cs ++ f (n + 1) ∷ []) (c.loop-before.invariant ts ran ends)
    ∙ append_assoc c.args.channels.now (map f (numbers_to n)) (f (n + 1) ∷ [])
    ∙ ap (λ (cs : List ChannelTotals). c.args.channels.now ++ cs) (sym (ap (map f) next ∙ map-append f (numbers_to n) ((n + 1) ∷ [])))

pub returns : goal.returns
returns g c ts t ran ends at =
    let s = c.args._scenario.now in
    let f = g.D.EndedDomain.ended in
    let ds = c.args.domains.now in
    let d = c.index-domains-at.result in
    let js = map journal_left ts in
    let all : c.loop-before.before ≡ c.channels_given-given.result = omega (arith, c.loop-before-test.false, c.loop-before.auto.before-end) in
    c.loop-before.invariant ts ran ends
    ∙ ap (λ (cs : List ChannelTotals). c.args.channels.now ++ cs)
    (ap (λ (o : ℕ). map (totals_of_channel s js o) (numbers_to c.loop-before.before)) c.number-owner.ensures
    ∙ owner-channels s (lawful_is_linked s c.requires.lawful) ts ran (map f ds) ends c.args.at (f d) t c.loop-before.before (mapped-within f ds c.args.at c.requires.at) (mapped-read f ds c.args.at d c.requires.at c.index-domains-at.is) at (all ∙ c.channels_given-given.ensures))
