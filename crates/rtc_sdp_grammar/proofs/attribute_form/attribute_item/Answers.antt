-- Each arm: the rows of this length are the table's answer; the last arm: no row has such a length.
use Rattle.std.proofs.Common.{sym, ◌∙◌, arith}
use Rattle.rtc_sdp_grammar.specs.NameLengths.{bytes_shown}
use Rattle.rtc_sdp_grammar.proofs.NameLemmas.{found_at, other_lengths}
use Rattle.rtc_sdp_grammar.proofs.attribute_form.attribute_item.Goals as goal

pub returns-in-3 : goal.returns-in-3
returns-in-3 c = rw (found_at 3 c.args.name.now (bytes_shown c.args.value) c.in-3.is) c.of_3.ensures

pub returns-in-4 : goal.returns-in-4
returns-in-4 c = rw (found_at 4 c.args.name.now (bytes_shown c.args.value) c.in-4.is) c.of_4.ensures

pub returns-in-5 : goal.returns-in-5
returns-in-5 c = rw (found_at 5 c.args.name.now (bytes_shown c.args.value) c.in-5.is) c.of_5.ensures

pub returns-in-6 : goal.returns-in-6
returns-in-6 c = rw (found_at 6 c.args.name.now (bytes_shown c.args.value) c.in-6.is) c.of_6.ensures

pub returns-in-7 : goal.returns-in-7
returns-in-7 c = rw (found_at 7 c.args.name.now (bytes_shown c.args.value) c.in-7.is) c.of_7.ensures

pub returns-in-8 : goal.returns-in-8
returns-in-8 c = c.of_8.ensures ∙ sym (found_at 8 c.args.name.now (bytes_shown c.args.value) c.in-8.is)

pub returns-in-9 : goal.returns-in-9
returns-in-9 c = rw (found_at 9 c.args.name.now (bytes_shown c.args.value) c.in-9.is) c.of_9.ensures

pub returns-in-10 : goal.returns-in-10
returns-in-10 c = c.of_10.ensures ∙ sym (found_at 10 c.args.name.now (bytes_shown c.args.value) c.in-10.is)

pub returns-in-11 : goal.returns-in-11
returns-in-11 c = rw (found_at 11 c.args.name.now (bytes_shown c.args.value) c.in-11.is) c.of_11.ensures

pub returns-in-16 : goal.returns-in-16
returns-in-16 c = c.of_16.ensures ∙ sym (found_at 16 c.args.name.now (bytes_shown c.args.value) c.in-16.is)

pub returns-in_default : goal.returns-in_default
returns-in_default c = sym (other_lengths c.args.name.now (bytes_shown c.args.value) (λ e. omega arith, (λ e. omega arith, (λ e. omega arith, (λ e. omega arith, (λ e. omega arith, (λ e. omega arith, (λ e. omega arith, (λ e. omega arith, (λ e. omega arith, (λ e. omega arith, tt)))))))))))
