-- A turn has one outcome.
use Rattle.std.proofs.Common.{◌≡◌, ℕ, List, ◌++◌, Option, Some, None, inl, inr, sym, ap, ◌∙◌}
use Rattle.cca_base.specs.declared.cube.Pair.{Pair}
use Rattle.cca_base.specs.PlantModel.{PlantModel}
use Rattle.control_laws.specs.Rest.{Rest as rest, Rests as rests, Turn, TurnSeq, TurnBoth, left_of, joined, round}

module _ (m : PlantModel) (e : List ℕ) where
  mutual
    unfolding Turn TurnSeq TurnBoth

    pub one_turn : (x : rest) (a b : List Pair) (y z : Option rest) → Turn m e x a y → Turn m e x b z → (a ≡ b) × (y ≡ z)
    one_turn (rest.Reach g) a b y z (inl s) (inl t) = (s.1 ∙ sym t.1, s.2 ∙ sym t.2)
    one_turn (rest.Reach g) a b y z (inl s) (inr t) = absurd (t.0 s.0)
    one_turn (rest.Reach g) a b y z (inr s) (inl t) = absurd (s.0 t.0)
    one_turn (rest.Reach g) a b y z (inr s) (inr t) = (s.1 ∙ sym t.1, s.2 ∙ sym t.2)
    one_turn (rest.Await f) a b y z (inl s) (inl t) = (s.1 ∙ sym t.1, s.2 ∙ sym t.2)
    one_turn (rest.Await f) a b y z (inl s) (inr t) = absurd (t.0 s.0)
    one_turn (rest.Await f) a b y z (inr s) (inl t) = absurd (s.0 t.0)
    one_turn (rest.Await f) a b y z (inr s) (inr t) = (s.1 ∙ sym t.1, s.2 ∙ sym t.2)
    one_turn (rest.Seq xs) a b y z s t =
        let h = one_seq xs a b s.0 t.0 s.1 t.1 in (h.0, s.2 ∙ ap (left_of rest.Seq) h.1 ∙ sym t.2)
    one_turn (rest.Both xs) a b y z s t =
        let h = one_both xs a b s.0 t.0 s.1 t.1 in (h.0, s.2 ∙ ap (left_of rest.Both) h.1 ∙ sym t.2)
    one_turn (rest.Choose f v w) a b y z (inl s) (inl t) = one_turn v a b y z s.1 t.1
    one_turn (rest.Choose f v w) a b y z (inl s) (inr t) = absurd (t.0 s.0)
    one_turn (rest.Choose f v w) a b y z (inr s) (inl t) = absurd (s.0 t.0)
    one_turn (rest.Choose f v w) a b y z (inr s) (inr t) = one_turn w a b y z s.1 t.1
    one_turn (rest.Repeat n body x) a b y z s t =
        let h = one_turn x a b s.0 t.0 s.1 t.1 in (h.0, s.2 ∙ ap (round n body) h.1 ∙ sym t.2)

    pub one_seq : (xs : rests) (a b : List Pair) (ys zs : rests) → TurnSeq m e xs a ys → TurnSeq m e xs b zs → (a ≡ b) × (ys ≡ zs)
    one_seq rests.none a b ys zs s t = (s.0 ∙ sym t.0, s.1 ∙ sym t.1)
    one_seq (rests.more x xs) a b ys zs (inl s) (inl t) =
        let h = one_turn x s.0 t.0 None None s.2 t.2 in
        let k = one_seq xs s.1 t.1 ys zs s.3 t.3 in
        (s.4 ∙ ap (λ l. l ++ s.1) h.0 ∙ ap (λ l. t.0 ++ l) k.0 ∙ sym t.4, k.1)
    one_seq (rests.more x xs) a b ys zs (inl s) (inr t) =
        let h = one_turn x s.0 b None (Some t.0) s.2 t.1 in let e : None ≡ Some t.0 = h.1 in absurd (cc)
    one_seq (rests.more x xs) a b ys zs (inr s) (inl t) =
        let h = one_turn x a t.0 (Some s.0) None s.1 t.2 in let e : Some s.0 ≡ None = h.1 in absurd (cc)
    one_seq (rests.more x xs) a b ys zs (inr s) (inr t) =
        let h = one_turn x a b (Some s.0) (Some t.0) s.1 t.1 in
        let e : Some s.0 ≡ Some t.0 = h.1 in
        let same : s.0 ≡ t.0 = cc in
        (h.0, s.2 ∙ ap (λ r. rests.more r xs) same ∙ sym t.2)

    pub one_both : (xs : rests) (a b : List Pair) (ys zs : rests) → TurnBoth m e xs a ys → TurnBoth m e xs b zs → (a ≡ b) × (ys ≡ zs)
    one_both rests.none a b ys zs s t = (s.0 ∙ sym t.0, s.1 ∙ sym t.1)
    one_both (rests.more x xs) a b ys zs s t =
        let h = one_turn x s.0 t.0 s.2 t.2 s.4 t.4 in
        let k = one_both xs s.1 t.1 s.3 t.3 s.5 t.5 in (
          s.6 ∙ ap (λ l. l ++ s.1) h.0 ∙ ap (λ l. t.0 ++ l) k.0 ∙ sym t.6,
          s.7 ∙ ap (λ r. joined r s.3) h.1 ∙ ap (λ l. joined t.2 l) k.1 ∙ sym t.7,
        )
