-- A pass is of the same queue after a try.
use Rattle.std.proofs.Common.{◌≡◌, ℕ, sym, ◌∙◌, subst}
use Rattle.passes.specs.Calls.{IsSamePass}
use Rattle.queue_tries.specs.declared.answers.EnqueueReply.{EnqueueReply}
use Rattle.queue_tries.specs.declared.answers.DequeueReply.{DequeueReply}
use Rattle.queue_tries.specs.declared.answers.QueueOnce.{QueueOnce}
use Rattle.queue_tries.specs.declared.answers.QueueOnce.TheVariants.{Answer, Again, Spent}
use Rattle.concurrent_queue.specs.Passes.{QueueView}
use Rattle.concurrent_queue.specs.Queues.{QueueId, IsOf}
use Rattle.concurrent_queue.specs.Tries.{EnqueuesOnce, DequeuesOnce, PeeksOnce, CountsOnce}

module _ (queue : QueueId) (p q : QueueView) (of : IsOf queue p) where
  stays : IsSamePass p.pass q.pass → q.window ≡ p.window → IsOf queue q
  stays same window = (same.table ∙ of.0, same.object ∙ of.1, window ∙ of.2)

  unchanged : q ≡ p → IsOf queue q
  unchanged same = subst (λ (z : QueueView). IsOf queue z) (sym same) of

  pub enqueue_stays : (first_len : ℕ) (value : ℕ) (r : QueueOnce EnqueueReply) → EnqueuesOnce p q first_len value r → IsOf queue q
  enqueue_stays first_len value (Answer reply receipt) h = let told = h.1 in stays told.1.same told.3
  enqueue_stays first_len value (Again again) h = let none = h.1 in stays none.same none.window
  enqueue_stays first_len value Spent h = unchanged h.same

  pub dequeue_stays : (first_len : ℕ) (r : QueueOnce DequeueReply) → DequeuesOnce p q first_len r → IsOf queue q
  dequeue_stays first_len (Answer reply receipt) h = let told = h.1 in stays told.1.same told.3
  dequeue_stays first_len (Again again) h = let none = h.1 in stays none.same none.window
  dequeue_stays first_len Spent h = unchanged h.same

  pub peek_stays : (first_len : ℕ) (r : QueueOnce DequeueReply) → PeeksOnce p q first_len r → IsOf queue q
  peek_stays first_len (Answer reply receipt) h = let told = h.1 in stays told.1.same told.3
  peek_stays first_len (Again again) h = let none = h.1 in stays none.same none.window
  peek_stays first_len Spent h = unchanged h.same

  pub count_stays : (first_len : ℕ) (r : QueueOnce ℕ) → CountsOnce p q first_len r → IsOf queue q
  count_stays first_len (Answer reply receipt) h = let told = h.1 in stays told.1.same told.3
  count_stays first_len (Again again) h = let none = h.1 in stays none.same none.window
  count_stays first_len Spent h = unchanged h.same
