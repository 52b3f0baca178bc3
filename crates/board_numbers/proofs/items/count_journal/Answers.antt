use Rattle.std.proofs.Common.{◌≡◌, ◌+◌, [], ◌∷◌, ◌++◌, List, Some, Option, refl, ap, sym, ◌∙◌, length, subst, take, arith}
use Rattle.std.specs.Prelude.{slice_get, option_map}
use Rattle.std.proofs.Math.Seq.{take-length}
use Rattle.board_model.specs.Journal.{Line}
use Rattle.mc_journal.specs.Entry.{line_of_entry}
use Rattle.mc_journal.specs.declared.entry.Entry.{Entry}
use Rattle.board_numbers.specs.ItemCounts.{ClosesLast, CountsLines, EachWith}
use Rattle.board_numbers.proofs.CountLemmas.{take-more}
use Rattle.board_numbers.proofs.EachLemmas.{each-same}
use Rattle.board_numbers.proofs.ItemCountLemmas.{lines-none}
use Rattle.board_numbers.proofs.items.count_journal.Goals as goal

pub loop-at-init : goal.loop-at-init
loop-at-init c = record {
  counted = each-same (CountsLines c.args.own []) (lines-none c.args.own) _;
  closes = λ owner n. refl;
}

pub loop-at-preserved : goal.loop-at-preserved
loop-at-preserved c =
    let lines = c.args.journal.now.lines in
    let at = c.loop-at.at in
    let line = line_of_entry c.unwrap.result in
    let here : Some line ≡ slice_get lines at = sym (ap (λ (e : Option Entry). option_map line_of_entry e) c.unwrap.ensures) ∙ c.entry.ensures.value in
    let next : take at lines ++ line ∷ [] ≡ take (at + 1) lines = sym (take-more lines at line here) in
    record {
      counted = subst (λ (ls : List Line). EachWith (CountsLines c.args.own ls) c.args.all.now c.count_items-closing.new.all) next (c.count_items-closing.ensures.counted (take at lines) c.args.all.now c.loop-at.invariant.closes c.loop-at.invariant.counted);
      closes = subst (λ (ls : List Line). ClosesLast ls c.count_items-closing.result) next (c.count_items-closing.ensures.closes (take at lines));
    }

pub returns : goal.returns
returns c =
    let lines = c.args.journal.now.lines in
    let end : c.loop-at.at ≡ length lines = omega (arith, c.loop-at-test.false, c.loop-at.auto.at-end, c.len-at-end.ensures) in
    subst (λ (ls : List Line). EachWith (CountsLines c.args.own ls) c.args.all.now c.loop-at.all) (ap (λ k. take k lines) end ∙ take-length lines) c.loop-at.invariant.counted
