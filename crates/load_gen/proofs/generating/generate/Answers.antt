use Rattle.std.proofs.Common.{◌≡◌, ◌+◌, ◌-◌, sym, ap, ◌∙◌, arith, rules}
use Rattle.load_gen.specs.Generator.{record_of, datagram_by, state}
use Rattle.load_gen.proofs.RecordFacts.{record_opening, record_datagram}
use Rattle.load_gen.proofs.generating.generate.Goals as goal

pub returns-then-index-lt-OPENINGS-clause-octets : goal.returns-then-index-lt-OPENINGS-clause-octets
returns-then-index-lt-OPENINGS-clause-octets c = rw (record_opening c.args.seed c.args.index (omega arith)) c.write_opening.ensures.octets

pub returns-then-index-lt-OPENINGS-clause-len : goal.returns-then-index-lt-OPENINGS-clause-len
returns-then-index-lt-OPENINGS-clause-len c = rw (record_opening c.args.seed c.args.index (omega arith)) c.write_opening.ensures.len

pub returns-then-index-lt-OPENINGS-clause-fits : goal.returns-then-index-lt-OPENINGS-clause-fits
returns-then-index-lt-OPENINGS-clause-fits c = rw (record_opening c.args.seed c.args.index (omega arith)) c.write_opening.ensures.fits

pub returns-clause-octets : goal.returns-clause-octets
returns-clause-octets c =
    let same : c.state_after.result ≡ state c.args.seed (c.args.index - 8 + 1) = search rules in
    let item : record_of c.args.seed c.args.index ≡ datagram_by (c.args.index - 8) c.state_after.result = record_datagram c.args.seed c.args.index (omega arith) ∙ ap (datagram_by (c.args.index - 8)) (sym same) in
    rw item c.write_datagram.ensures.octets

pub returns-clause-len : goal.returns-clause-len
returns-clause-len c =
    let same : c.state_after.result ≡ state c.args.seed (c.args.index - 8 + 1) = search rules in
    let item : record_of c.args.seed c.args.index ≡ datagram_by (c.args.index - 8) c.state_after.result = record_datagram c.args.seed c.args.index (omega arith) ∙ ap (datagram_by (c.args.index - 8)) (sym same) in
    rw item c.write_datagram.ensures.len

pub returns-clause-fits : goal.returns-clause-fits
returns-clause-fits c =
    let same : c.state_after.result ≡ state c.args.seed (c.args.index - 8 + 1) = search rules in
    let item : record_of c.args.seed c.args.index ≡ datagram_by (c.args.index - 8) c.state_after.result = record_datagram c.args.seed c.args.index (omega arith) ∙ ap (datagram_by (c.args.index - 8)) (sym same) in
    rw item c.write_datagram.ensures.fits
