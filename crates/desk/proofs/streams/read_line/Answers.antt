use Rattle.std.proofs.Common.{◌≡◌, ◌≢◌, rules}
use Rattle.lines.specs.Line.{line_end}
use Rattle.desk.proofs.StreamLaws.{goes_on, ends}
use Rattle.desk.proofs.streams.read_line.Goals as goal

pub loop-preserved : goal.loop-preserved
loop-preserved g c =
    let left = g.R.Read.remaining in
    let other : c.in-Some.byte ≢ line_end = search rules in
    goes_on (left c.args.reader.now) (left c.loop.reader) (left c.next_byte.new.reader) c.loop.line.items c.keep.new.line.items c.in-Some.byte c.loop.invariant c.in-Some.ensures c.keep.ensures other

pub returns-then-byte-eq-LINE_END : goal.returns-then-byte-eq-LINE_END
returns-then-byte-eq-LINE_END g c =
    let left = g.R.Read.remaining in
    let last : c.in-Some.byte ≡ line_end = search rules in
    ends (left c.args.reader.now) (left c.loop.reader) (left c.next_byte.new.reader) c.loop.line.items c.keep.new.line.items c.in-Some.byte c.loop.invariant c.in-Some.ensures c.keep.ensures last
