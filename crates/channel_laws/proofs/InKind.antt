-- A wait stands in the kind of its begin until it is forgotten.
use Rattle.std.specs.Prelude.{ℕ, List}
use Rattle.std.proofs.Common.{◌≡◌, refl, sym, subst, ◌⊎◌, inl, inr}
use Rattle.ho_model.specs.declared.marks.CallMark.{CallMark}
use Rattle.ho_model.specs.declared.marks.ReplyMark.TheVariants.{Waiting}
use Rattle.ho_model.specs.Channel.{Standing, WantsItem, WantsRoom, LooksForItem, LooksForRoom, Answered, Waiter, Channel, poll, polled, cancel, cancelled}
use Rattle.channel_laws.specs.Kinds.{AnswersBegin, CancelsBegin, IsInKind}
use Rattle.channel_laws.proofs.Standing.{StandsIn, KeepsAnswers, stands_at, own_standing, own_poll_says, own_cancel_says}

abbrev pub StandsAs : CallMark → ℕ → ℕ → List Waiter → Type 0
StandsAs b c n ws = StandsIn (IsInKind b) c n ws

-- an answer to a wait in the kind of a begin answers that begin
pub answers_in_kind : (b : CallMark) → KeepsAnswers (IsInKind b)
answers_in_kind b WantsItem r k a = subst (λ z. AnswersBegin z r) (sym k) a
answers_in_kind b (WantsRoom x) r k a = subst (λ z. AnswersBegin z r) (sym k) a
answers_in_kind b LooksForItem r k a = subst (λ z. AnswersBegin z r) (sym k) a
answers_in_kind b LooksForRoom r k a = subst (λ z. AnswersBegin z r) (sym k) a
answers_in_kind b (Answered q) r k a = absurd a

-- a poll says that the wait stands, or gives an answer in kind
polled_in_kind : (b : CallMark) (n : ℕ) (st : Standing) → IsInKind b st → (polled st n ≡ Waiting n) ⊎ AnswersBegin b (polled st n)
polled_in_kind b n WantsItem k = inl refl
polled_in_kind b n (WantsRoom x) k = inl refl
polled_in_kind b n LooksForItem k = inl refl
polled_in_kind b n LooksForRoom k = inl refl
polled_in_kind b n (Answered r) k = inr k

cancelled_in_kind : (b : CallMark) (st : Standing) → IsInKind b st → CancelsBegin b (cancelled st) ⊎ AnswersBegin b (cancelled st)
cancelled_in_kind b WantsItem k = inl (subst (λ z. CancelsBegin z (cancelled WantsItem)) (sym k) refl)
cancelled_in_kind b (WantsRoom x) k = inl (subst (λ z. CancelsBegin z (cancelled (WantsRoom x))) (sym k) refl)
cancelled_in_kind b LooksForItem k = inl (subst (λ z. CancelsBegin z (cancelled LooksForItem)) (sym k) refl)
cancelled_in_kind b LooksForRoom k = inl (subst (λ z. CancelsBegin z (cancelled LooksForRoom)) (sym k) refl)
cancelled_in_kind b (Answered r) k = inr k

module _ (b : CallMark) (c n : ℕ) (s : Channel) (h : StandsAs b c n s.waits) where
  pub own_poll : ((poll s c n).0 ≡ Waiting n) ⊎ AnswersBegin b (poll s c n).0
  own_poll =
      subst (λ r. (r ≡ Waiting n) ⊎ AnswersBegin b r) (sym (own_poll_says (IsInKind b) c n s h))
      (polled_in_kind b n (stands_at (IsInKind b) c n s h) (own_standing (IsInKind b) c n s h))

  pub own_cancel : CancelsBegin b (cancel s c n).0 ⊎ AnswersBegin b (cancel s c n).0
  own_cancel =
      subst (λ r. CancelsBegin b r ⊎ AnswersBegin b r) (sym (own_cancel_says (IsInKind b) c n s h))
      (cancelled_in_kind b (stands_at (IsInKind b) c n s h) (own_standing (IsInKind b) c n s h))
