use Rattle.std.proofs.Common.{is_some, refl, ap, ◌∙◌, rules, arith}
use Rattle.rtc_plain_media.specs.Lines.{held_line, writer_mark, same_key, key_of}
use Rattle.rtc_plain_media.specs.MediaContents.{MediaContents}
use Rattle.rtc_plain_media.proofs.CountLemmas.{keeps_marked}
use Rattle.rtc_plain_media.proofs.LendLemmas.{line_left}
use Rattle.rtc_plain_media.proofs.part.PlainMediaMediaSession.writer.Goals as goal

pub returns-in-Some : goal.returns-in-Some
returns-in-Some c =
    let found = ap is_some c.in-Some.ensures.value ∙ ap (λ (p : MediaContents). is_some (held_line c.args.mid p.lines)) c.self.view_is in
    let held = ap writer_mark c.in-Some.ensures.value ∙ ap (λ (p : MediaContents). writer_mark (held_line c.args.mid p.lines)) c.self.view_is in
    ((refl, (λ w. (held, line_left c.args.mid w c.in-Some.line.now _ _ _ c.self.view_is c.in-Some.ensures.value (c.get_mut.follows.holds (record c.in-Some.line.now { mark = w })).0)), refl), search (rules, found))

pub invariant_of-self-lent : goal.invariant_of-self-lent
invariant_of-self-lent c = λ w.
    let p = c.self.inside in
    let written = c.get_mut.follows.holds (record c.in-Some.line.now { mark = w }) in (
      omega (arith, c.self.invariant.0, written.6),
      c.self.invariant.1,
      keeps_marked p.counts p.most p.pending.items p.lines.entries _ (same_key (key_of c.args.mid)) c.in-Some.line.now w written.0 c.in-Some.ensures.value c.self.invariant.2,
    )
