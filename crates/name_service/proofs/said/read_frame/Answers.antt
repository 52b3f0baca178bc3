use Rattle.std.proofs.Common.{sym, tests, rules}
use Rattle.std.proofs.Common.{◌≡◌, ◌==◌, true, false}
use Rattle.mc_base.specs.Letter.{saying_of}
use Rattle.mc_base.proofs.Readings.{reads_announcement, reads_frame_fault, reads_saying, reads_letter_fault, reads_ns_fault}
use Rattle.name_service.proofs.said.read_frame.Goals as goal

pub returns-in-Err : goal.returns-in-Err
returns-in-Err c = sym (reads_frame_fault c.args.frame.now c.in-Err.fault c.in-Err.ensures.fault)

pub returns-in-Ok-read_ns : goal.returns-in-Ok-read_ns
returns-in-Ok-read_ns c =
    let f = c.in-Ok.frame in
    let ns = c.in-Ok-read_ns.ns in
    let to_names : (f.dst == 53) ≡ true = search (rules, tests) in
    sym (reads_announcement c.args.frame.now f.payload.now f.src f.dst ns.name.items ns.addr ns.create c.in-Ok.ensures.sound c.in-Ok.ensures.fault to_names c.in-Ok-read_ns.ensures.fault c.in-Ok-read_ns.ensures.sound)

pub returns-in-Err-read_ns : goal.returns-in-Err-read_ns
returns-in-Err-read_ns c =
    let f = c.in-Ok.frame in
    let to_names : (f.dst == 53) ≡ true = search (rules, tests) in
    sym (reads_ns_fault c.args.frame.now f.payload.now f.src f.dst c.in-Err-read_ns.fault c.in-Ok.ensures.sound c.in-Ok.ensures.fault to_names c.in-Err-read_ns.ensures.fault)

pub returns-in-Ok-read_letter : goal.returns-in-Ok-read_letter
returns-in-Ok-read_letter c =
    let f = c.in-Ok.frame in
    let to_endpoint : (f.dst == 53) ≡ false = search (rules, tests) in
    sym (reads_saying c.args.frame.now f.payload.now f.src f.dst (saying_of c.in-Ok-read_letter.letter) c.in-Ok.ensures.sound c.in-Ok.ensures.fault to_endpoint c.in-Ok-read_letter.ensures.fault c.in-Ok-read_letter.ensures.sound)

pub returns-in-Err-read_letter : goal.returns-in-Err-read_letter
returns-in-Err-read_letter c =
    let f = c.in-Ok.frame in
    let to_endpoint : (f.dst == 53) ≡ false = search (rules, tests) in
    sym (reads_letter_fault c.args.frame.now f.payload.now f.src f.dst c.in-Err-read_letter.fault c.in-Ok.ensures.sound c.in-Ok.ensures.fault to_endpoint c.in-Err-read_letter.ensures.fault)
