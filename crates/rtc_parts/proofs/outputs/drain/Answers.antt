use Rattle.std.proofs.Common.{rules, ◌≡◌, ◌++◌, [], ◌∷◌, take, refl, ◌∙◌, append_assoc, arith}
use Rattle.std.proofs.lemmas.Grind.{common_steps}
use Rattle.std.proofs.lemmas.Result.{err_from_is_err_and}
use Rattle.rtc_parts.proofs.DtlsLemmas.{takes_more}
use Rattle.rtc_parts.proofs.outputs.drain.Goals as goal

pub polls-preserved : goal.polls-preserved
polls-preserved g c =
    let bytes : c.in_ok-packet-in-Packet.packet.items ≡ take c.in-Packet.len c.poll.new.buf = grind (arith, common_steps) in
    let queued : c.push_back.new.self.items ≡ c.polls.packets.items ++ c.in_ok-packet-in-Packet.packet.items ∷ [] = search rules in (
      c.polls.invariant.0 ++ take c.in-Packet.len c.poll.new.buf ∷ [],
      (
        takes_more g.D.DtlsInstance.dtls c.args.instance.now c.polls.instance c.poll.new.self c.polls.invariant.0 (take c.in-Packet.len c.poll.new.buf) c.polls.invariant.1.0 c.in-Packet.ensures.polled,
        rw (queued, bytes, c.polls.invariant.1.1, append_assoc) refl,
      ),
    )

-- where memory lacks for a packet, it is lost
pub returns-in_err-packet-in-Packet : goal.returns-in_err-packet-in-Packet
returns-in_err-packet-in-Packet g c =
    let bytes = take c.in-Packet.len c.poll.new.buf in
    let p = err_from_is_err_and c.from_residual.result c.from_residual.ensures.1 in
    rw p.1 (
      c.polls.invariant.0,
      (
        bytes,
        (
          takes_more g.D.DtlsInstance.dtls c.args.instance.now c.polls.instance c.poll.new.self c.polls.invariant.0 bytes c.polls.invariant.1.0 c.in-Packet.ensures.polled,
          c.polls.invariant.1.1,
        ),
      ),
    )

pub returns-in_err-push_back-in-Packet : goal.returns-in_err-push_back-in-Packet
returns-in_err-push_back-in-Packet g c =
    let bytes = take c.in-Packet.len c.poll.new.buf in
    let same : c.push_back.new.self.items ≡ c.polls.packets.items = search rules in
    let p = err_from_is_err_and c.from_residual-in_err-push_back-in-Packet.result c.from_residual-in_err-push_back-in-Packet.ensures.1 in
    rw p.1 (
      c.polls.invariant.0,
      (
        bytes,
        (
          takes_more g.D.DtlsInstance.dtls c.args.instance.now c.polls.instance c.poll.new.self c.polls.invariant.0 bytes c.polls.invariant.1.0 c.in-Packet.ensures.polled,
          same ∙ c.polls.invariant.1.1,
        ),
      ),
    )
