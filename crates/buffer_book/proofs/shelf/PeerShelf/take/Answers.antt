use Rattle.std.proofs.Common.{◌∙◌, Option, ap, sym, subst}
use Rattle.std.specs.Prelude.{IsNone, ◌↔◌, option_map, option_and_then}
use Rattle.buffer_book.specs.Book.{Item, item_as, item_of_shelf, frame_on, is_single}
use Rattle.buffer_book.proofs.Found.{run-none, not-none}
use Rattle.buffer_book.proofs.ShelfItems.{named-as, is-here, taken-here, taken-there, there-item}
use Rattle.buffer_book.proofs.shelf.PeerShelf.take.Goals as goal

pub take_named-requires : goal.take_named-requires
take_named-requires c =
    let s = c.args.self.now in
    let run = named-as c.self.inside.peer c.self.inside.cells.items c.self.inside.aside.items s c.deref.result.now c.args.name c.args.lent c.named_run.result c.self.view_is c.deref.ensures.value c.named_run.ensures in
    let here = is-here s c.args.name c.args.lent c.in-Some.run' (run ∙ c.in-Some.is) in
    here.run

pub returns-in-Some-clause-none : goal.returns-in-Some-clause-none
returns-in-Some-clause-none c =
    let s = c.args.self.now in
    let run = named-as c.self.inside.peer c.self.inside.cells.items c.self.inside.aside.items s c.deref.result.now c.args.name c.args.lent c.named_run.result c.self.view_is c.deref.ensures.value c.named_run.ensures in
    let here = is-here s c.args.name c.args.lent c.in-Some.run' (run ∙ c.in-Some.is) in
    (λ n. absurd cc, λ n. not-none _ (item_of_shelf s c.args.name c.args.lent) here.item here.found n)

pub returns-in-Some-clause-frame : goal.returns-in-Some-clause-frame
returns-in-Some-clause-frame c =
    let s = c.args.self.now in
    let run = named-as c.self.inside.peer c.self.inside.cells.items c.self.inside.aside.items s c.deref.result.now c.args.name c.args.lent c.named_run.result c.self.view_is c.deref.ensures.value c.named_run.ensures in
    let here = is-here s c.args.name c.args.lent c.in-Some.run' (run ∙ c.in-Some.is) in
    c.take_named.ensures.frame ∙ ap (option_and_then (frame_on s 0)) here.same

pub returns-in-Some-clause-last : goal.returns-in-Some-clause-last
returns-in-Some-clause-last c =
    let s = c.args.self.now in
    let run = named-as c.self.inside.peer c.self.inside.cells.items c.self.inside.aside.items s c.deref.result.now c.args.name c.args.lent c.named_run.result c.self.view_is c.deref.ensures.value c.named_run.ensures in
    let here = is-here s c.args.name c.args.lent c.in-Some.run' (run ∙ c.in-Some.is) in
    c.take_named.ensures.last ∙ ap (option_map is_single) here.same

pub returns-in-Some-clause-number : goal.returns-in-Some-clause-number
returns-in-Some-clause-number c =
    let s = c.args.self.now in
    let run = named-as c.self.inside.peer c.self.inside.cells.items c.self.inside.aside.items s c.deref.result.now c.args.name c.args.lent c.named_run.result c.self.view_is c.deref.ensures.value c.named_run.ensures in
    let here = is-here s c.args.name c.args.lent c.in-Some.run' (run ∙ c.in-Some.is) in
    c.take_named.ensures.number ∙ ap (option_map (λ (i : Item). i.first)) here.same

pub returns-in-Some-clause-shelf : goal.returns-in-Some-clause-shelf
returns-in-Some-clause-shelf c =
    let s = c.args.self.now in
    let run = named-as c.self.inside.peer c.self.inside.cells.items c.self.inside.aside.items s c.deref.result.now c.args.name c.args.lent c.named_run.result c.self.view_is c.deref.ensures.value c.named_run.ensures in
    let here = is-here s c.args.name c.args.lent c.in-Some.run' (run ∙ c.in-Some.is) in
    c.take_named.ensures.shelf ∙ sym (taken-here s c.args.name c.args.lent here.stands)

pub returns-in-None-clause-none : goal.returns-in-None-clause-none
returns-in-None-clause-none c =
    let s = c.args.self.now in
    let run = named-as c.self.inside.peer c.self.inside.cells.items c.self.inside.aside.items s c.deref.result.now c.args.name c.args.lent c.named_run.result c.self.view_is c.deref.ensures.value c.named_run.ensures in
    let none = there-item s c.args.name c.args.lent (run-none (item_as s.items c.args.name c.args.lent) (run ∙ c.in-None.is)) in
    subst (λ (o : Option Item). IsNone c.take_aside.result ↔ IsNone o) (sym none) c.take_aside.ensures.none

pub returns-in-None-clause-frame : goal.returns-in-None-clause-frame
returns-in-None-clause-frame c =
    let s = c.args.self.now in
    let run = named-as c.self.inside.peer c.self.inside.cells.items c.self.inside.aside.items s c.deref.result.now c.args.name c.args.lent c.named_run.result c.self.view_is c.deref.ensures.value c.named_run.ensures in
    let none = there-item s c.args.name c.args.lent (run-none (item_as s.items c.args.name c.args.lent) (run ∙ c.in-None.is)) in
    c.take_aside.ensures.frame ∙ sym (ap (option_and_then (frame_on s 0)) none)

pub returns-in-None-clause-last : goal.returns-in-None-clause-last
returns-in-None-clause-last c =
    let s = c.args.self.now in
    let run = named-as c.self.inside.peer c.self.inside.cells.items c.self.inside.aside.items s c.deref.result.now c.args.name c.args.lent c.named_run.result c.self.view_is c.deref.ensures.value c.named_run.ensures in
    let none = there-item s c.args.name c.args.lent (run-none (item_as s.items c.args.name c.args.lent) (run ∙ c.in-None.is)) in
    c.take_aside.ensures.last ∙ sym (ap (option_map is_single) none)

pub returns-in-None-clause-number : goal.returns-in-None-clause-number
returns-in-None-clause-number c =
    let s = c.args.self.now in
    let run = named-as c.self.inside.peer c.self.inside.cells.items c.self.inside.aside.items s c.deref.result.now c.args.name c.args.lent c.named_run.result c.self.view_is c.deref.ensures.value c.named_run.ensures in
    let none = there-item s c.args.name c.args.lent (run-none (item_as s.items c.args.name c.args.lent) (run ∙ c.in-None.is)) in
    c.take_aside.ensures.number ∙ sym (ap (option_map (λ (i : Item). i.first)) none)

pub returns-in-None-clause-shelf : goal.returns-in-None-clause-shelf
returns-in-None-clause-shelf c =
    let s = c.args.self.now in
    let run = named-as c.self.inside.peer c.self.inside.cells.items c.self.inside.aside.items s c.deref.result.now c.args.name c.args.lent c.named_run.result c.self.view_is c.deref.ensures.value c.named_run.ensures in
    c.take_aside.ensures.shelf ∙ sym (taken-there s c.args.name c.args.lent (run-none (item_as s.items c.args.name c.args.lent) (run ∙ c.in-None.is)))
