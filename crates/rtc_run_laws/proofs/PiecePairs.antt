-- Of two ends of the plain association: a part of a message that one holds is of a generation of a stream to which the other one wrote.
use Rattle.std.proofs.Common.{◌≡◌, ◌∙◌, ◌⊎◌, inl, inr, ℕ, true, List, [], ◌∷◌, ◌++◌, append-nil, append_assoc, drop, length, Option, Some, None, refl, sym, subst, arith}
use Rattle.rtc_parts.specs.Among.{Among}
use Rattle.rtc_parts.specs.AssociationActs.{AssociationAct, Given, Moved}
use Rattle.rtc_parts.specs.AssociationWords.{AssociationMessage, ended, given, taken, written}
use Rattle.rtc_parts.proofs.AssociationLemmas.{written-append}
use Rattle.rtc_assoc_state.specs.declared.item.Item.{Item}
use Rattle.rtc_assoc_state.specs.declared.frame.Frame.{Frame}
use Rattle.rtc_assoc_state.specs.declared.frame.Frame.TheVariants.{Hello, Welcome, Data, Acknowledgement, Shutdown}
use Rattle.rtc_assoc_state.specs.Packets.{frame_in}
use Rattle.rtc_assoc_state.specs.Contents.{Contents, fresh_contents}
use Rattle.rtc_assoc_state.specs.PlainMeaning.{plain_meaning}
use Rattle.rtc_assoc.specs.Joined.{Ends, fresh_ends, Move, LeftMoves, RightMoves, Goes, Run}
use Rattle.rtc_assoc.proofs.CoreLemmas.{Step}
use Rattle.rtc_assoc.proofs.DirectedLemmas.{Directed, brings_of, receiver_moves, sender_moves}
use Rattle.rtc_assoc.proofs.OrderLemmas.{Honest}
use Rattle.rtc_assoc.proofs.RunLemmas.{both_run}
use Rattle.rtc_assoc.proofs.StepLemmas.{step_of}
use Rattle.rtc_sctp_laws.proofs.KeptLists.{HasPart}
use Rattle.rtc_sctp_laws.proofs.PartItems.{ActParts, BringsPiece, GivesPiece, HasPiece, piece_dropped, piece_either, piece_left, piece_right}
use Rattle.rtc_sctp_laws.proofs.PartActs.{act_parts}
use Rattle.rtc_run_laws.proofs.ClosingMoves.{among_first, among_rest}

-- each piece among the items that an end sent in all is of a message that it wrote, and each part at the other end of one of these
record AreSourced (w : List Item) (v : List AssociationAct) (b : Contents) : Type 0 where
  wrote : (s g : ℕ) → HasPiece s g w → written s g v ≡ [] → ⊥
  parts : (s g : ℕ) → HasPart s g b.inbox.parts → HasPiece s g w

record PiecesFrom (a b : Contents) (v u : List AssociationAct) : Type 0 where
  there : List Item
  back : List Item
  forth_is : Directed there a b v u
  back_is : Directed back b a u v
  forth : AreSourced there v b
  backward : AreSourced back u a

pieces_swap : (a b : Contents) (v u : List AssociationAct) → PiecesFrom a b v u → PiecesFrom b a u v
pieces_swap a b v u h =
    record { there = h.back; back = h.there; forth_is = h.back_is; back_is = h.forth_is; forth = h.backward; backward = h.forth }

none_left : (xs ys : List AssociationMessage) → xs ++ ys ≡ [] → xs ≡ []
none_left [] ys h = refl
none_left (x ∷ xs) ys h = absurd (no_cons (xs ++ ys) h)
  where
    no_cons : (l : List AssociationMessage) → x ∷ l ≡ [] → ⊥
    no_cons l k = cc

none_right : (xs ys : List AssociationMessage) → xs ++ ys ≡ [] → ys ≡ []
none_right [] ys h = h
none_right (x ∷ xs) ys h = absurd (no_cons (xs ++ ys) h)
  where
    no_cons : (l : List AssociationMessage) → x ∷ l ≡ [] → ⊥
    no_cons l k = cc

-- an honest packet brings a piece that was sent
piece_sent : (s g : ℕ) (w : List Item) (f : Option Frame) → BringsPiece s g f → Honest w f → HasPiece s g w
piece_sent s g w None h k = absurd h
piece_sent s g w (Some Hello) h k = absurd h
piece_sent s g w (Some Welcome) h k = absurd h
piece_sent s g w (Some (Data n number item)) h k =
    subst (λ (l : List Item). HasPiece s g l) (sym k.is) (piece_right s g k.before (item ∷ k.after) (inl h))
piece_sent s g w (Some (Acknowledgement n)) h k = absurd h
piece_sent s g w (Some Shutdown) h k = absurd h

swapped : (v u : List AssociationAct) (t g : ℕ) → (ended t g u ≡ true) ⊎ (ended t g v ≡ true) → (ended t g v ≡ true) ⊎ (ended t g u ≡ true)
swapped v u t g (inl e) = inr e
swapped v u t g (inr e) = inl e

-- one end acts
pieces_step : (a c b : Contents) (act : AssociationAct) (v u : List AssociationAct) → ActParts a act c → Step a act c
    → Among (given (act ∷ [])) (taken u) → PiecesFrom a b v u → PiecesFrom c b (v ++ act ∷ []) u
pieces_step a c b act v u k s m h = record {
  there = h.there ++ s.core.more;
  back = h.back;
  forth_is = sender_moves h.there a c b act v u s m (λ t g x. swapped v u t g (brings_of h.back b a c act u v s m h.back_is t g x)) h.forth_is;
  back_is = receiver_moves h.back b a c act u v s m h.back_is;
  forth = record { wrote = λ t g x. wrote t g x; parts = λ t g x. piece_left t g h.there s.core.more (h.forth.parts t g x) };
  backward = record { wrote = h.backward.wrote; parts = λ t g x. part t g (k.parts t g x) };
}
  where
    of_old : (t g : ℕ) → HasPiece t g h.there → written t g (v ++ act ∷ []) ≡ [] → ⊥
    of_old t g x none = h.forth.wrote t g x (none_left (written t g v) (written t g (act ∷ [])) (sym (written-append t g v (act ∷ [])) ∙ none))

    of_items : (t g : ℕ) → HasPiece t g a.outbox.items ⊎ (written t g (act ∷ []) ≡ [] → ⊥) → written t g (v ++ act ∷ []) ≡ [] → ⊥
    of_items t g (inl x) none =
        of_old t g
        (piece_dropped t g a.outbox.acked h.there (subst (λ (l : List Item). HasPiece t g l) h.forth_is.sender.rest x)) none
    of_items t g (inr some) none = some (none_right (written t g v) (written t g (act ∷ [])) (sym (written-append t g v (act ∷ [])) ∙ none))

    either : (t g : ℕ) → HasPiece t g h.there ⊎ HasPiece t g s.core.more → written t g (v ++ act ∷ []) ≡ [] → ⊥
    either t g (inl x) none = of_old t g x none
    either t g (inr x) none =
        of_items t g
        (k.items t g
        (subst (λ (l : List Item). HasPiece t g l) (sym s.core.items) (piece_right t g (drop s.core.count a.outbox.items) s.core.more x))) none

    wrote : (t g : ℕ) → HasPiece t g (h.there ++ s.core.more) → written t g (v ++ act ∷ []) ≡ [] → ⊥
    wrote t g x none = either t g (piece_either t g h.there s.core.more x) none

    by_packet : (t g : ℕ) (one : AssociationAct) → GivesPiece t g one → Among (given (one ∷ [])) (taken u) → HasPiece t g h.back
    by_packet t g (Given bytes) x among = piece_sent t g h.back (frame_in bytes) x (h.back_is.sent bytes (inr (among.each bytes (inl refl))))
    by_packet t g one x among = absurd x

    part : (t g : ℕ) → HasPart t g a.inbox.parts ⊎ GivesPiece t g act → HasPiece t g h.back
    part t g (inl x) = h.backward.parts t g x
    part t g (inr x) = by_packet t g act x m

pieces_acts : (a c b : Contents) (acts v u : List AssociationAct) → Moved plain_meaning a acts c → Among (given acts) (taken u) → PiecesFrom a b v u
    → PiecesFrom c b (v ++ acts) u
pieces_acts a c b [] v u h m k =
    subst (λ (x : Contents). PiecesFrom x b (v ++ []) u) (sym h) (subst (λ (l : List AssociationAct). PiecesFrom a b l u) (sym (append-nil v)) k)
pieces_acts a c b (act ∷ acts) v u h m k =
    let first : PiecesFrom h.0 b (v ++ act ∷ []) u =
    pieces_step a h.0 b act v u (act_parts a h.0 act h.1.0) (step_of a h.0 act h.1.0) (among_first act acts (taken u) m) k in
    subst (λ (l : List AssociationAct). PiecesFrom c b l u) (append_assoc v (act ∷ []) acts)
    (pieces_acts h.0 c b acts (v ++ act ∷ []) u h.1.1 (among_rest act acts (taken u) m) first)

pieces_goes : (d e : Ends) (move : Move) → Goes d move e → PiecesFrom d.left d.right d.left_acts d.right_acts
    → PiecesFrom e.left e.right e.left_acts e.right_acts
pieces_goes d e (LeftMoves acts) g h =
    let P : Ends → Type 0 = λ x. PiecesFrom x.left x.right x.left_acts x.right_acts in
    subst P (sym g.2) (pieces_acts d.left e.left d.right acts d.left_acts d.right_acts g.0 g.1 h)
pieces_goes d e (RightMoves acts) g h =
    let P : Ends → Type 0 = λ x. PiecesFrom x.left x.right x.left_acts x.right_acts in
    subst P (sym g.2)
    (pieces_swap e.right d.left (d.right_acts ++ acts) d.left_acts
    (pieces_acts d.right e.right d.left acts d.right_acts d.left_acts g.0 g.1 (pieces_swap d.left d.right d.left_acts d.right_acts h)))

no_length : (x : Item) (xs : List Item) → 0 ≡ length (x ∷ xs) → ⊥
no_length x xs h = omega (arith, h)

no_item : (w : List Item) → 0 ≡ length w → (s g : ℕ) → HasPiece s g w → ⊥
no_item [] h s g x = x
no_item (y ∷ w) h s g x = no_length y w h

fresh_sourced : (w : List Item) → Directed w fresh_contents fresh_contents [] [] → AreSourced w [] fresh_contents
fresh_sourced w h = record { wrote = λ s g x none. no_item w (let count = h.sender.count in omega (arith, count)) s g x; parts = λ s g x. absurd x }

pieces_fresh : PiecesFrom fresh_contents fresh_contents [] []
pieces_fresh =
    let h = both_run [] fresh_ends refl in
    record {
      there = h.there;
      back = h.back;
      forth_is = h.forth_is;
      back_is = h.back_is;
      forth = fresh_sourced h.there h.forth_is;
      backward = fresh_sourced h.back h.back_is;
    }

pieces_run : (moves : List Move) (e : Ends) → Run moves e → PiecesFrom e.left e.right e.left_acts e.right_acts
pieces_run [] e r = let P : Ends → Type 0 = λ x. PiecesFrom x.left x.right x.left_acts x.right_acts in subst P (sym r) pieces_fresh
pieces_run (move ∷ moves) e r = pieces_goes r.0 e move r.1.1 (pieces_run moves r.0 r.1.0)

-- what one end holds a part of, the other one wrote
pub right_written : (moves : List Move) (e : Ends) → Run moves e → (s g : ℕ) → HasPart s g e.left.inbox.parts → written s g e.right_acts ≡ [] → ⊥
right_written moves e r s g x none = let h = pieces_run moves e r in h.backward.wrote s g (h.backward.parts s g x) none

pub left_written : (moves : List Move) (e : Ends) → Run moves e → (s g : ℕ) → HasPart s g e.right.inbox.parts → written s g e.left_acts ≡ [] → ⊥
left_written moves e r s g x none = let h = pieces_run moves e r in h.forth.wrote s g (h.forth.parts s g x) none
