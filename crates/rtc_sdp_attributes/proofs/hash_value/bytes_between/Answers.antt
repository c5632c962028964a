use Rattle.rtc_wire_text.proofs.HexLemmas.{pair_read, no_pair_left}
use Rattle.rtc_sdp_attributes.proofs.HashLemmas.{room_left}
use Rattle.rtc_sdp_attributes.proofs.hash_value.bytes_between.Goals as goal

pub loop-rest-preserved : goal.loop-rest-preserved
loop-rest-preserved c = record {
  read = rw c.push_reserved.ensures.items (pair_read c.loop-rest.rest.now c.loop-rest.bytes.items c.in-Some.byte _ c.in-len3-up.len_at_least c.in-Some.ensures c.if-colon-ne58.false c.loop-rest.invariant.read);
  room = room_left c.loop-rest.rest.now _ _ _ _ c.in-len3-up.len_at_least c.push_reserved.ensures.len c.push_reserved.ensures.capacity c.loop-rest.invariant.room;
}

pub returns-then-rest-ne2 : goal.returns-then-rest-ne2
returns-then-rest-ne2 c = no_pair_left c.loop-rest.rest.now c.loop-rest.bytes.items _ c.in_default.len_below c.if-rest-ne2.true c.loop-rest.invariant.read
