use Rattle.std.proofs.Common.{◌≡◌, ◌≤◌, ◌-◌, ◌∙◌, ◌++◌, ℕ, List, length, take, take_all, drop, sym, ap, arith, append_assoc, length-drop}
use Rattle.std.proofs.lemmas.List.{drop-drop}
use Rattle.byteorder.specs.Endian.{little_bytes}
use Rattle.mc_base.specs.Announcement.{flags_of}
use Rattle.mc_base.proofs.NameFields.{nuls, drop-field}
use Rattle.name_service.proofs.Announcements.{put_behind}
use Rattle.name_service.proofs.writing.write_ns.Goals as goal

-- The numbers stand behind the name's field, and what stood behind them stays.
pub returns : goal.returns
returns c =
    let name = c.args.ns.now.name.items in
    let old = c.args.out.now in
    let named = c.write_name.new.out in
    let short : length name ≤ 31 = omega (arith, ap length c.as_slice.ensures.value) in
    let field : named ≡ name ++ (nuls name ++ drop 32 old) = c.write_name.ensures ∙ ap (λ (n : List ℕ). n ++ (nuls n ++ drop 32 old)) c.as_slice.ensures.value in
    let rest : take (length named - 32) (drop 32 named) ≡ drop 32 old =
    take_all (length named - 32) (drop 32 named) (omega (arith, length-drop 32 named)) ∙ ap (drop 32) field ∙ drop-field name (drop 32 old) short in
    let numbers = little_bytes 4 c.args.ns.now.addr ++ little_bytes 4 (flags_of c.args.ns.now.create) in
    let written : c.write_numbers.new.out ≡ numbers ++ drop 40 old =
    c.write_numbers.ensures ∙ ap (λ (xs : List ℕ). numbers ++ xs) (ap (drop 8) rest ∙ drop-drop 8 32 old) in
    put_behind name (drop 32 old) c.write_numbers.new.out named short field
    ∙ ap (λ (xs : List ℕ). name ++ (nuls name ++ xs)) written
    ∙ sym (append_assoc name (nuls name ++ numbers) (drop 40 old) ∙ ap (λ (xs : List ℕ). name ++ xs) (append_assoc (nuls name) numbers (drop 40 old)))
