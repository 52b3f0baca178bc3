use Rattle.std.proofs.Common.{◌≡◌, ◌∙◌, sym, arith}
use Rattle.mc_base.proofs.FullNames.{in_range-small, none_named, full-parts, parts-full}
use Rattle.name_service.proofs.full_names.endpoint_named.Goals as goal

pub returns-in_err-domain : goal.returns-in_err-domain
returns-in_err-domain c =
    c.from_residual.ensures ∙ sym (none_named c.args.name.now (λ n f. full-parts c.args.name.now (λ d e p. ⊥) c.in_err-domain.ensures.only n f))

pub returns-in_err-number : goal.returns-in_err-number
returns-in_err-number c =
    c.from_residual-in_err-number.ensures ∙ sym (none_named c.args.name.now (λ n f.
    let is = full-parts c.args.name.now (λ d e p. (c.in_ok-domain.domain.now ≡ d) × (c.in_ok-domain.node.now ≡ e) × (c.in_ok-domain.port.now ≡ p)) c.in_ok-domain.ensures.only n f in
    c.in_err-number.ensures.refused n.domain (omega (arith, (in_range-small n f.in_range).domain, c.from.ensures)) is.0))

pub returns-in_err-number-2 : goal.returns-in_err-number-2
returns-in_err-number-2 c =
    c.from_residual-in_err-number-2.ensures ∙ sym (none_named c.args.name.now (λ n f.
    let is = full-parts c.args.name.now (λ d e p. (c.in_ok-domain.domain.now ≡ d) × (c.in_ok-domain.node.now ≡ e) × (c.in_ok-domain.port.now ≡ p)) c.in_ok-domain.ensures.only n f in
    c.in_err-number-2.ensures.refused n.node (omega (arith, (in_range-small n f.in_range).node, c.from-2.ensures)) is.1))

pub returns-in_err-number-3 : goal.returns-in_err-number-3
returns-in_err-number-3 c =
    c.from_residual-in_err-number-3.ensures ∙ sym (none_named c.args.name.now (λ n f.
    let is = full-parts c.args.name.now (λ d e p. (c.in_ok-domain.domain.now ≡ d) × (c.in_ok-domain.node.now ≡ e) × (c.in_ok-domain.port.now ≡ p)) c.in_ok-domain.ensures.only n f in
    c.in_err-number-3.ensures.refused n.port (omega (arith, (in_range-small n f.in_range).port)) is.2))

pub returns : goal.returns
returns c =
    let read = c.in_ok-number.ensures.read in
    let read_node = c.in_ok-number-2.ensures.read in
    let read_port = c.in_ok-number-3.ensures.read in
    sym (parts-full c.args.name.now c.in_ok-domain.domain.now c.in_ok-domain.node.now c.in_ok-domain.port.now (record { domain = c.in_ok-number.field-0; node = c.in_ok-number-2.field-0; port = c.in_ok-number-3.field-0 }) c.in_ok-domain.ensures.made read.0 read_node.0 read_port.0 (record { domain = omega (arith, read.1, c.from.ensures); node = omega (arith, read_node.1, c.from-2.ensures); port = omega (arith, read_port.1) }))
