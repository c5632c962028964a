-- What one side got of a channel, the other one sent.
use Rattle.std.proofs.Common.{◌≡◌, ◌∙◌, ◌++◌, ◌∷◌, ◌&&◌, ◌||◌, ℕ, Bool, true, false, true≢false, List, [], map, Option, Some, refl, sym, ap, subst}
use Rattle.rtc_parts.specs.AssociationWords.{AssociationMessage, read, written}
use Rattle.rtc_parts.specs.Ppi.{ppi_number, ppi_of}
use Rattle.rtc_assoc.specs.Unread.{IsPrefix}
use Rattle.rtc_parts.specs.Draws.{Draws}
use Rattle.rtc_sctp_laws.specs.StreamMessages.{StreamMessage, HaveNamedPpis, IsNamedPpi, is_dcep, is_dcep_message}
use Rattle.rtc_sctp_laws.specs.StreamUses.{any_dcep, begins_with_dcep, messages_of}
use Rattle.rtc_sctp_laws.specs.Contents.{contents_by, contents_of, numbered_message}
use Rattle.rtc_sctp_laws.proofs.ContentLemmas.{contents-append, named_contents, read_are, written_are}
use Rattle.rtc_peer_laws.specs.PeerActs.{PeerActs}
use Rattle.rtc_run_laws.specs.PlainPairs.{PlainPolled, plain_over}
use Rattle.rtc_run_laws.specs.ChannelUses.{ChannelUse}
use Rattle.rtc_run_laws.specs.HandedOut.{AreHandedOut, AreHandedOver, AreToldWhole}
use Rattle.rtc_run_laws.specs.ToldMessages.{MessagesTold}
use Rattle.rtc_run_laws.proofs.StandingSides.{Sent, SideSent, SideStood}
use Rattle.rtc_run_laws.proofs.UseLists.{all_member, named_kept, prefix_contents, prefix_through}
use Rattle.rtc_run_laws.proofs.UsesPolled.{all_dcep_none}
use Rattle.rtc_run_laws.proofs.UsesTold.{InBandTold, UseOpened, UseTold, use_opened}
use Rattle.rtc_run_laws.proofs.WholeUses.{InBandWhole, SideWhole, WholeTold}

-- the first message that was read is the first that was written
first_number : (x y : AssociationMessage) (xs ys : List AssociationMessage) → x ∷ xs ≡ y ∷ ys → x.identifier ≡ y.identifier
first_number x y xs ys h = ap (λ (l : List AssociationMessage). first l) h
  where
    first : List AssociationMessage → ℕ
    first [] = x.identifier
    first (z ∷ l) = z.identifier

pub begins_too : (z : StreamMessage) (l ys : List StreamMessage) → IsNamedPpi z.ppi → HaveNamedPpis ys
    → IsPrefix (map numbered_message (z ∷ l)) (map numbered_message ys) → begins_with_dcep ys ≡ true → is_dcep_message z ≡ true
begins_too z l [] named others h begun = absurd (true≢false (sym begun))
begins_too z l (y ∷ ys) named others h begun =
    let same : ppi_number z.ppi ≡ ppi_number y.ppi =
    first_number (numbered_message z) (numbered_message y) (map numbered_message l ++ h.rest) (map numbered_message ys) h.is in
    let ppis : z.ppi ≡ y.ppi = sym named ∙ ap ppi_of same ∙ others.0 in
    ap is_dcep ppis ∙ begun

-- so that nothing was read before the message that opened the channel
nothing_before : (before : List StreamMessage) (last : StreamMessage) (rest ws : List StreamMessage)
    → HaveNamedPpis ((before ++ last ∷ []) ++ rest) → HaveNamedPpis ws
    → IsPrefix (map numbered_message ((before ++ last ∷ []) ++ rest)) (map numbered_message ws) → begins_with_dcep ws ≡ true → any_dcep before ≡ false
    → before ≡ []
nothing_before [] last rest ws named others h begun none = refl
nothing_before (z ∷ before) last rest ws named others h begun none =
    absurd (both (is_dcep_message z) (begins_too z ((before ++ last ∷ []) ++ rest) ws named.0 others h begun) none)
  where
    both : (b : Bool) → b ≡ true → (b || any_dcep before) ≡ false → ⊥
    both true e k = true≢false k
    both false e k = true≢false (sym e)

carries_rest : (before : List StreamMessage) (last : StreamMessage) (rest : List StreamMessage) → before ≡ [] → contents_of (last ∷ []) ≡ []
    → contents_of ((before ++ last ∷ []) ++ rest) ≡ contents_of rest
carries_rest before last rest none dcep =
    ap (λ (l : List StreamMessage). contents_of ((l ++ last ∷ []) ++ rest)) none
    ∙ contents-append (last ∷ []) rest
    ∙ ap (λ (l : List (Bool × List ℕ)). l ++ contents_of rest) dcep

module _ {N : Type 0} (draws : Draws N) where
  -- nothing was read of the generation before the message that opened the channel
  none_before_opening : (s g : ℕ) (a b : PeerActs) (us vs : List ChannelUse) (p q : PlainPolled N) (x : SideStood draws a us p) (y : SideStood draws b vs q)
      (before : List StreamMessage) (last : StreamMessage) (rest : List StreamMessage) → messages_of s g x.read ≡ (before ++ last ∷ []) ++ rest
      → any_dcep before ≡ false → begins_with_dcep (messages_of s g y.written) ≡ true → IsPrefix (read s g a.association) (written s g b.association)
      → before ≡ []
  none_before_opening s g a b us vs p q x y before last rest xs_is none begun h =
      nothing_before before last rest (messages_of s g y.written)
      (subst HaveNamedPpis xs_is (named_kept s g x.read x.told.named_read))
      (named_kept s g y.written y.told.named_written)
      (subst (λ (l : List AssociationMessage). IsPrefix l (map numbered_message (messages_of s g y.written)))
      (read_are s g a.association x.read x.read_is ∙ ap (map numbered_message) xs_is)
      (subst (λ (l : List AssociationMessage). IsPrefix (read s g a.association) l) (written_are s g b.association y.written y.wrote_is) h)) begun none

  -- what was read of the generation carries what was read behind the opening
  pub reads_carry : (s g : ℕ) (a b : PeerActs) (us vs : List ChannelUse) (p q : PlainPolled N) (x : SideStood draws a us p) (y : SideStood draws b vs q)
      (of : Option ℕ) (got : List (Bool × List ℕ)) (t : UseOpened x.written x.read of g got) → t.stream ≡ s
      → begins_with_dcep (messages_of s g y.written) ≡ true → IsPrefix (read s g a.association) (written s g b.association)
      → contents_by (read s g a.association) ≡ contents_of t.rest
  reads_carry s g a b us vs p q x y of got t same begun h =
      ap contents_by read_is
      ∙ named_contents xs named_xs
      ∙ carries_rest t.before t.last t.rest none
      (all_dcep_none (t.last ∷ []) (one_dcep (is_dcep_message t.last) t.last_dcep))
    where
      xs : List StreamMessage
      xs = (t.before ++ t.last ∷ []) ++ t.rest

      xs_is : messages_of s g x.read ≡ xs
      xs_is = ap (λ (n : ℕ). messages_of n g x.read) (sym same) ∙ t.read_is

      named_xs : HaveNamedPpis xs
      named_xs = subst HaveNamedPpis xs_is (named_kept s g x.read x.told.named_read)

      read_is : read s g a.association ≡ map numbered_message xs
      read_is = read_are s g a.association x.read x.read_is ∙ ap (map numbered_message) xs_is

      none : t.before ≡ []
      none = none_before_opening s g a b us vs p q x y t.before t.last t.rest xs_is t.none_before begun h

      one_dcep : (b : Bool) → b ≡ true → (b && true) ≡ true
      one_dcep true e = refl
      one_dcep false e = absurd (true≢false (sym e))

  -- what was written of it carries what was sent
  pub writes_carry : (s g : ℕ) (b : PeerActs) (vs : List ChannelUse) (q : PlainPolled N) (y : SideStood draws b vs q)
      → contents_by (written s g b.association) ≡ contents_of (messages_of s g y.written)
  writes_carry s g b vs q y =
      ap contents_by (written_are s g b.association y.written y.wrote_is)
      ∙ named_contents (messages_of s g y.written) (named_kept s g y.written y.told.named_written)

  pub both_carry : (s g : ℕ) (a b : PeerActs) (us vs : List ChannelUse) (p q : PlainPolled N) (x : SideStood draws a us p) (y : SideStood draws b vs q)
      (d : ℕ) (of into : Option ℕ) (got sent' got' : List (Bool × List ℕ))
      (t : UseOpened x.written x.read of g got) (u : UseTold (plain_over draws) y.written y.read q d into g sent' got')
      → t.stream ≡ s → u.stream ≡ s → IsPrefix (read s g a.association) (written s g b.association)
      → (contents_by (read s g a.association) ≡ contents_of t.rest) × (contents_by (written s g b.association) ≡ sent')
  both_carry s g a b us vs p q x y d of into got sent' got' t u same other h = (
    reads_carry s g a b us vs p q x y of got t same
        (ap (λ (n : ℕ). begins_with_dcep (messages_of n g y.written)) (sym other) ∙ u.begins) h,
    writes_carry s g b vs q y ∙ ap (λ (n : ℕ). contents_of (messages_of n g y.written)) (sym other) ∙ u.sent_is,
  )

  got_was_sent : (s g : ℕ) (a b : PeerActs) (us vs : List ChannelUse) (p q : PlainPolled N) (x : SideStood draws a us p) (y : SideStood draws b vs q)
      (d : ℕ) (of into : Option ℕ) (got sent' got' : List (Bool × List ℕ))
      (t : UseOpened x.written x.read of g got) (u : UseTold (plain_over draws) y.written y.read q d into g sent' got')
      → t.stream ≡ s → u.stream ≡ s → IsPrefix (read s g a.association) (written s g b.association) → IsPrefix got sent'
  got_was_sent s g a b us vs p q x y d of into got sent' got' t u same other h =
      let carry = both_carry s g a b us vs p q x y d of into got sent' got' t u same other h in
      prefix_through got (contents_of t.rest) sent' t.prefix
      (subst (λ (l : List (Bool × List ℕ)). IsPrefix l sent') carry.0
      (subst (λ (l : List (Bool × List ℕ)). IsPrefix (contents_by (read s g a.association)) l) carry.1
      (prefix_contents (read s g a.association) (written s g b.association) h)))

  pub handed : (a b : PeerActs) (us vs : List ChannelUse) (p q : PlainPolled N) → SideStood draws a us p → SideStood draws b vs q
      → ((s g : ℕ) → IsPrefix (read s g a.association) (written s g b.association)) → AreHandedOut us vs
  handed a b us vs p q x y reads = λ k l mine theirs band other left streams generations.
      let t =
      use_opened (plain_over draws) x.written x.read p k
      (all_member (InBandTold (plain_over draws) x.written x.read p) us k x.told.each mine band) in
      let u = (all_member (InBandTold (plain_over draws) y.written y.read q) vs l y.told.each theirs other).kept left in
      got_was_sent t.stream k.generation a b us vs p q x y l.channel k.stream l.stream k.got l.sent l.got t
      (subst (λ (n : ℕ). UseTold (plain_over draws) y.written y.read q l.channel l.stream n l.sent l.got) (sym generations) u) refl
      (some_is u.stream t.stream (sym u.stream_is ∙ sym streams ∙ t.stream_is)) (reads t.stream k.generation)
    where
      some_is : (n k : ℕ) → Some n ≡ Some k → n ≡ k
      some_is n k e = cc

  -- the first message of the generation opens the channel
  pub opens_first : (s g : ℕ) (b : PeerActs) (vs : List ChannelUse) (q : PlainPolled N) (y : SideStood draws b vs q) (l : ChannelUse)
      (u : UseOpened y.written y.read l.stream l.generation l.got) → u.stream ≡ s → l.generation ≡ g → begins_with_dcep (messages_of s g y.written) ≡ true
  opens_first s g b vs q y l u same own =
      ap (λ (n : ℕ). begins_with_dcep (messages_of s n y.written)) (sym own)
      ∙ ap (λ (n : ℕ). begins_with_dcep (messages_of n l.generation y.written)) (sym same)
      ∙ u.begins

  -- also of one that was rolled back, by all that the other side sent to the generation
  pub handed_over : (a b : PeerActs) (us vs : List ChannelUse) (p q : PlainPolled N) (sent : Sent) (told : MessagesTold) → SideStood draws a us p
      → SideSent draws b vs sent told q → ((s g : ℕ) → IsPrefix (read s g a.association) (written s g b.association)) → AreHandedOver us vs sent
  handed_over a b us vs p q sent told x y reads = λ k l mine theirs band other s of into generations.
      let t =
      use_opened (plain_over draws) x.written x.read p k
      (all_member (InBandTold (plain_over draws) x.written x.read p) us k x.told.each mine band) in
      let u =
      use_opened (plain_over draws) y.side.written y.side.read q l
      (all_member (InBandTold (plain_over draws) y.side.written y.side.read q) vs l y.side.told.each theirs other) in
      prefix_through k.got (contents_of t.rest) (sent s k.generation) t.prefix
      (subst (λ (m : List (Bool × List ℕ)). IsPrefix m (sent s k.generation))
      (reads_carry s k.generation a b us vs p q x y.side k.stream k.got t (some_is t.stream s (sym t.stream_is ∙ of))
      (opens_first s k.generation b vs q y.side l u (some_is u.stream s (sym u.stream_is ∙ into)) (sym generations)) (reads s k.generation))
      (subst (λ (m : List (Bool × List ℕ)). IsPrefix (contents_by (read s k.generation a.association)) m)
      (writes_carry s k.generation b vs q y.side ∙ y.sent_is s k.generation)
      (prefix_contents (read s k.generation a.association) (written s k.generation b.association) (reads s k.generation))))
    where
      some_is : (n k : ℕ) → Some n ≡ Some k → n ≡ k
      some_is n k e = cc

  -- what was told of the channel in the generation is what it got since it was announced
  pub told_whole : (a b : PeerActs) (us vs : List ChannelUse) (p q : PlainPolled N) (x : SideStood draws a us p) (y : SideStood draws b vs q)
      (told : MessagesTold) → SideWhole told x.read us → ((s g : ℕ) → IsPrefix (read s g a.association) (written s g b.association))
      → AreToldWhole us vs told
  told_whole a b us vs p q x y told whole reads = λ k l mine theirs band other s of into generations.
      let w = all_member (InBandWhole told x.read) us k whole.each mine band in
      let u =
      use_opened (plain_over draws) y.written y.read q l
      (all_member (InBandTold (plain_over draws) y.written y.read q) vs l y.told.each theirs other) in
      by k s w (some_is w.stream s (sym w.stream_is ∙ of))
      (opens_first s k.generation b vs q y l u (some_is u.stream s (sym u.stream_is ∙ into)) (sym generations))
    where
      some_is : (n k : ℕ) → Some n ≡ Some k → n ≡ k
      some_is n k e = cc

      by : (k : ChannelUse) (s : ℕ) (w : WholeTold told x.read k.channel k.stream k.generation k.got) → w.stream ≡ s
          → begins_with_dcep (messages_of s k.generation y.written) ≡ true → told k.channel s k.generation ≡ k.got
      by k s w same opens =
          ap (λ (n : ℕ). told k.channel n k.generation) (sym same)
          ∙ w.told_is
          ∙ ap (λ (l : List (Bool × List ℕ)). l ++ k.got)
          (w.silent
          (ap contents_of
          (none_before_opening s k.generation a b us vs p q x y w.before w.last w.rest
          (ap (λ (n : ℕ). messages_of n k.generation x.read) (sym same) ∙ w.read_is) w.none_before opens (reads s k.generation))))
