use Rattle.std.proofs.Common.{◌∙◌, Option, Some, None, length, refl, ap, sym}
use Rattle.std.specs.Prelude.{option_map}
use Rattle.std.proofs.lemmas.Option.{slice_get_read}
use Rattle.buffer_book.specs.declared.cell.Resting.{Resting}
use Rattle.buffer_book.specs.Book.{Aside}
use Rattle.buffer_book.specs.Runs.{columns_of, run_of_item}
use Rattle.buffer_book.proofs.Found.{run-here, run-aside}
use Rattle.buffer_book.proofs.ShelfItems.{named-as, within-aside, aside-at, aside-by, run-resting}
use Rattle.buffer_book.proofs.shelf.PeerShelf.run.Goals as goal

pub returns-in-Some : goal.returns-in-Some
returns-in-Some c =
    let s = c.args.self.now in
    let named = named-as c.self.inside.peer c.self.inside.cells.items c.self.inside.aside.items s c.deref.result.now c.args.name c.args.lent c.named_run.result c.self.view_is c.deref.ensures.value c.named_run.ensures in
    run-here s c.args.name c.args.lent c.in-Some.run' (named ∙ c.in-Some.is)

pub returns-in_err-place_aside : goal.returns-in_err-place_aside
returns-in_err-place_aside c =
    let s = c.args.self.now in
    let named = named-as c.self.inside.peer c.self.inside.cells.items c.self.inside.aside.items s c.deref.result.now c.args.name c.args.lent c.named_run.result c.self.view_is c.deref.ensures.value c.named_run.ensures in
    rw c.from_residual.ensures (sym (run-aside s c.args.name c.args.lent (named ∙ c.in_default.is) ∙ ap (option_map run_of_item) (aside-by s c.args.name c.args.lent None c.in_err-place_aside.ensures.place)))

pub returns-in_err-resting : goal.returns-in_err-resting
returns-in_err-resting c =
    let s = c.args.self.now in
    let named = named-as c.self.inside.peer c.self.inside.cells.items c.self.inside.aside.items s c.deref.result.now c.args.name c.args.lent c.named_run.result c.self.view_is c.deref.ensures.value c.named_run.ensures in
    let k = columns_of c.self.inside.cells.items in
    let rs = c.self.inside.aside.items in
    let l = c.in_ok-place_aside.field-0 in
    let lt = within-aside c.self.inside.peer k rs s l c.self.view_is c.in_ok-place_aside.ensures.within in
    let there = slice_get_read rs (length rs) l c.index.result.now refl lt c.index.ensures ∙ ap (λ (o : Option Resting). Some o) c.in_err-resting.was in
    let on = aside-at c.self.inside.peer k rs s l None c.self.view_is there in
    rw c.from_residual-in_err-resting.ensures (sym (run-aside s c.args.name c.args.lent (named ∙ c.in_default.is)
    ∙ ap (option_map run_of_item) (aside-by s c.args.name c.args.lent (Some l) c.in_ok-place_aside.ensures.place)
    ∙ ap (λ (o : Option Aside). option_map run_of_item (option_map (λ (a : Aside). a.item) o)) on))

pub returns : goal.returns
returns c =
    let s = c.args.self.now in
    let named = named-as c.self.inside.peer c.self.inside.cells.items c.self.inside.aside.items s c.deref.result.now c.args.name c.args.lent c.named_run.result c.self.view_is c.deref.ensures.value c.named_run.ensures in
    let k = columns_of c.self.inside.cells.items in
    let rs = c.self.inside.aside.items in
    let l = c.in_ok-place_aside.field-0 in
    let r = c.in_ok-resting.resting in
    let lt = within-aside c.self.inside.peer k rs s l c.self.view_is c.in_ok-place_aside.ensures.within in
    let there = slice_get_read rs (length rs) l c.index.result.now refl lt c.index.ensures ∙ ap (λ (o : Option Resting). Some o) c.in_ok-resting.was in
    let on = aside-at c.self.inside.peer k rs s l (Some r) c.self.view_is there in
    sym (run-aside s c.args.name c.args.lent (named ∙ c.in_default.is)
    ∙ ap (option_map run_of_item) (aside-by s c.args.name c.args.lent (Some l) c.in_ok-place_aside.ensures.place)
    ∙ ap (λ (o : Option Aside). option_map run_of_item (option_map (λ (a : Aside). a.item) o)) on
    ∙ run-resting k.next r)
