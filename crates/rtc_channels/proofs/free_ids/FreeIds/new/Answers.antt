use Rattle.std.proofs.Common.{refl}
use Rattle.rtc_sctp_values.proofs.WordLemmas.{full_summary, full_top, full_bits}
use Rattle.rtc_channels.proofs.IdLemmas.{full_pool-words}
use Rattle.rtc_channels.proofs.free_ids.FreeIds.new.Goals as goal

pub invariant_of-result : goal.invariant_of-result
invariant_of-result c = record {
  bit = c.parity_of.ensures.bit;
  word_count = c.full_words.ensures.count;
  group_count = c.full_words-2.ensures.count;
  top_count = refl;
  lower = full_summary _ _ 8 c.full_words-2.ensures.count c.full_words.ensures.count c.full_words-2.ensures.full c.full_words.ensures.full;
  upper = full_top _ _ refl c.full_words-2.ensures.count refl c.full_words-2.ensures.full;
}

pub returns : goal.returns
returns c =
    full_pool-words c.args.client c.parity_of.result c.full_words.result c.parity_of.ensures.parity c.parity_of.ensures.bit
    (full_bits c.full_words.result 512 c.full_words.ensures.full)
