-- A field with a carrier of its own, where equality is decided and laws have no premises; and what follows from its laws.
-- Assumes nothing.
use Rattle.std.proofs.Common.{◌≡◌, sym, ap, ◌∙◌, ap₂}

pub record AbstractField : Type 1 where
  infixl 65 ◌⊕◌
  infixl 70 ◌⊗◌
  pub E : Type 0
  pub same : Discrete E
  pub o : E
  pub i : E
  pub ◌⊕◌ : E → E → E
  pub ◌⊗◌ : E → E → E
  pub neg : E → E
  pub inv : E → E
  pub sum_assoc : (a b c : E) → (a ⊕ b) ⊕ c ≡ a ⊕ (b ⊕ c)
  pub sum_comm : (a b : E) → a ⊕ b ≡ b ⊕ a
  pub sum-zero : (a : E) → a ⊕ o ≡ a
  pub sum_neg : (a : E) → a ⊕ neg a ≡ o
  pub product_assoc : (a b c : E) → (a ⊗ b) ⊗ c ≡ a ⊗ (b ⊗ c)
  pub product_comm : (a b : E) → a ⊗ b ≡ b ⊗ a
  pub product-one : (a : E) → a ⊗ i ≡ a
  pub distributes : (a b c : E) → a ⊗ (b ⊕ c) ≡ (a ⊗ b) ⊕ (a ⊗ c)
  pub product_inv : (a : E) → ¬ (a ≡ o) → a ⊗ inv a ≡ i

module _ (F : AbstractField) where
  open F use {E, o, i, ◌⊕◌, ◌⊗◌, neg, inv}

  infixl 65 ◌⊕◌
  infixl 70 ◌⊗◌
  -- the laws again, as lemmas that a ruleset can name
  pub add_assoc : (a b c : E) → a ⊕ b ⊕ c ≡ a ⊕ (b ⊕ c)
  add_assoc = F.sum_assoc

  pub add_comm : (a b : E) → a ⊕ b ≡ b ⊕ a
  add_comm = F.sum_comm

  pub add-zero : (a : E) → a ⊕ o ≡ a
  add-zero = F.sum-zero

  pub mul_assoc : (a b c : E) → a ⊗ b ⊗ c ≡ a ⊗ (b ⊗ c)
  mul_assoc = F.product_assoc

  pub mul_comm : (a b : E) → a ⊗ b ≡ b ⊗ a
  mul_comm = F.product_comm

  pub mul-one : (a : E) → a ⊗ i ≡ a
  mul-one = F.product-one

  pub mul-add : (a b c : E) → a ⊗ (b ⊕ c) ≡ a ⊗ b ⊕ a ⊗ c
  mul-add = F.distributes

  pub zero-add : (a : E) → o ⊕ a ≡ a
  zero-add a = add_comm o a ∙ add-zero a

  pub neg_add : (a : E) → neg a ⊕ a ≡ o
  neg_add a = add_comm (neg a) a ∙ F.sum_neg a

  pub add_left_comm : (a b c : E) → a ⊕ (b ⊕ c) ≡ b ⊕ (a ⊕ c)
  add_left_comm a b c = sym (add_assoc a b c) ∙ ap (λ x. x ⊕ c) (add_comm a b) ∙ add_assoc b a c

  pub mul_left_comm : (a b c : E) → a ⊗ (b ⊗ c) ≡ b ⊗ (a ⊗ c)
  mul_left_comm a b c = sym (mul_assoc a b c) ∙ ap (λ x. x ⊗ c) (mul_comm a b) ∙ mul_assoc b a c

  pub add-mul : (a b c : E) → (a ⊕ b) ⊗ c ≡ (a ⊗ c) ⊕ (b ⊗ c)
  add-mul a b c = mul_comm (a ⊕ b) c ∙ mul-add c a b ∙ ap₂ ◌⊕◌ (mul_comm c a) (mul_comm c b)

  pub one-mul : (a : E) → i ⊗ a ≡ a
  one-mul a = mul_comm i a ∙ mul-one a

  -- a + b = a + c only if b = c
  pub add_cancel : (a b c : E) → a ⊕ b ≡ a ⊕ c → b ≡ c
  add_cancel a b c e =
      sym (zero-add b) ∙ ap (λ x. x ⊕ b) (sym (neg_add a)) ∙ add_assoc (neg a) a b ∙ ap (λ x. neg a ⊕ x) e
      ∙ sym (add_assoc (neg a) a c) ∙ ap (λ x. x ⊕ c) (neg_add a) ∙ zero-add c

  pub mul-zero : (a : E) → a ⊗ o ≡ o
  mul-zero a = add_cancel (a ⊗ o) (a ⊗ o) o (sym (mul-add a o o) ∙ ap (λ x. a ⊗ x) (add-zero o) ∙ sym (add-zero (a ⊗ o)))

  pub zero-mul : (a : E) → o ⊗ a ≡ o
  zero-mul a = mul_comm o a ∙ mul-zero a

  -- a·b = a·c with a other than 0 only if b = c
  pub mul_cancel : (a b c : E) → ¬ (a ≡ o) → a ⊗ b ≡ a ⊗ c → b ≡ c
  mul_cancel a b c h e = sym (undone b) ∙ ap (λ x. inv a ⊗ x) e ∙ undone c
    where
      undone : (x : E) → inv a ⊗ (a ⊗ x) ≡ x
      undone x = sym (mul_assoc (inv a) a x) ∙ ap (λ y. y ⊗ x) (mul_comm (inv a) a ∙ F.product_inv a h) ∙ one-mul x

  -- `simp ring` sorts both sides of an equation into sums of sorted products
  pub ruleset ring = (add_assoc, add_comm, add_left_comm, mul_assoc, mul_comm, mul_left_comm, mul-add, add-mul, add-zero, zero-add, mul-zero, zero-mul, mul-one, one-mul)
