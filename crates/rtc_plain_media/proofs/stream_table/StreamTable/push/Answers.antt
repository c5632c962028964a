use Rattle.std.proofs.Common.{◌≡◌, ◌+◌, ◌∷◌, [], ◌++◌, ℕ, length, sym, ap, subst, ◌∙◌, arith}
use Rattle.std.proofs.lemmas.Grind.{common_steps}
use Rattle.rtc_plain_media.specs.StreamIndex.{FindsStreams, FitsStreams, IndexesStreams}
use Rattle.rtc_plain_media.specs.Streams.{Streams, made_stream_row}
use Rattle.rtc_plain_media.proofs.stream_table.StreamTable.push.Goals as goal

pub invariant_of-self : goal.invariant_of-self
invariant_of-self c = c.make_room.ensures.kept c.self.inside.rows.items c.self.invariant

pub invariant_of-self-in_err-reserve : goal.invariant_of-self-in_err-reserve
invariant_of-self-in_err-reserve c =
    subst (λ (l : Streams). IndexesStreams c.make_room.new.self l) (sym c.reserve.ensures.items) (c.make_room.ensures.kept c.self.inside.rows.items c.self.invariant)

pub invariant_of-self-2 : goal.invariant_of-self-2
invariant_of-self-2 c =
    let rows = c.self.inside.rows.items in
    let row = made_stream_row c.args.ssrc c.args.rtx c.args.mid c.args.rid in
    let held = c.make_room.ensures.kept rows c.self.invariant in
    let last : c.len-at.result ≡ length rows = grind (arith, common_steps) in
    let made : c.push_reserved.new.self.items ≡ rows ++ row ∷ [] = c.push_reserved.ensures.items ∙ ap (λ (l : Streams). l ++ row ∷ []) c.reserve.ensures.items in
    let counted : c.len-at.result + 1 ≡ length c.push_reserved.new.self.items = grind (arith, common_steps, made, last) in (
      subst (λ (l : Streams). FindsStreams c.add.new.self l) (sym made) (c.add.ensures.found rows last held.0),
      subst (λ (n : ℕ). FitsStreams c.add.new.self n) counted (c.add.ensures.room.fits (c.len-at.result + 1) c.in_ok-make_room.ensures.room),
    )
