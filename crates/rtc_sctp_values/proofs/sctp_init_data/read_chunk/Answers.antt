use Rattle.std.proofs.Common.{refl}
use Rattle.rtc_sctp_values.proofs.ChunkLemmas.{read_is, unread_is, read_text_is}
use Rattle.rtc_sctp_values.proofs.sctp_init_data.read_chunk.Goals as goal

pub returns-in-Ok-clause-chunk : goal.returns-in-Ok-clause-chunk
returns-in-Ok-clause-chunk c =
    read_is c.as_bytes.result.now c.args.text.now c.in-Ok.chunk.items c.as_bytes.ensures.value c.in-Ok.ensures.ok

pub returns-in-Ok-clause-text : goal.returns-in-Ok-clause-text
returns-in-Ok-clause-text c =
    read_text_is c.as_bytes.result.now c.args.text.now c.in-Ok.chunk.items c.as_bytes.ensures.value (c.in-Ok.ensures.exact (refl, refl))

pub returns-in-Err-DecodeError-clause-chunk : goal.returns-in-Err-DecodeError-clause-chunk
returns-in-Err-DecodeError-clause-chunk c =
    unread_is c.as_bytes.result.now c.args.text.now c.in-Err-DecodeError.field-0-0 c.as_bytes.ensures.value
    (rw c.in-Err-DecodeError.field-0-is at c.in-Err-DecodeError.ensures.err)
