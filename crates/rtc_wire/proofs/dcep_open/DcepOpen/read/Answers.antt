use Rattle.rtc_wire.proofs.DcepOpenLemmas.{read_whatever_follows}
use Rattle.rtc_wire.proofs.dcep_open.DcepOpen.read.Goals as goal

pub returns-clause-behind : goal.returns-clause-behind
returns-clause-behind c = λ more.
    read_whatever_follows c.args.buf.now more
    c.if-buf-lt-HEADER_LEN.false
    c.if-buf-ne-OPEN_TYPE.false
    (rw (← c.u16_at.ensures, ← c.u16_at-2.ensures) c.if-buf-end.false)
    (rw (← c.u16_at.ensures) c.in_ok-label.ensures.0)
    (rw (← c.u16_at.ensures, ← c.u16_at-2.ensures) c.in_ok-protocol.ensures.0)
