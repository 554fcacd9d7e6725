-- A function's next needs, answered at once: `four f a` hands f the four parts of a, so that one `search needs` answers four needs of a
-- `tie.spec`.

pub three : {A B C : Type 0} {R : Type 2} → (A → B → C → R) → A × B × C → R
three f (a, b, c) = f a b c

pub four : {A B C D : Type 0} {R : Type 2} → (A → B → C → D → R) → A × B × C × D → R
four f (a, b, c, d) = f a b c d

pub five : {A B C D E : Type 0} {R : Type 2} → (A → B → C → D → E → R) → A × B × C × D × E → R
five f (a, b, c, d, e) = f a b c d e

pub six : {A B C D E F : Type 0} {R : Type 2} → (A → B → C → D → E → F → R) → A × B × C × D × E × F → R
six f (a, b, c, d, e, g) = f a b c d e g

pub seven : {A B C D E F G : Type 0} {R : Type 2} → (A → B → C → D → E → F → G → R) → A × B × C × D × E × F × G → R
seven f (a, b, c, d, e, g, h) = f a b c d e g h

pub eight : {A B C D E F G H : Type 0} {R : Type 2} → (A → B → C → D → E → F → G → H → R) → A × B × C × D × E × F × G × H → R
eight f (a, b, c, d, e, g, h, i) = f a b c d e g h i

pub nine : {A B C D E F G H I : Type 0} {R : Type 2} → (A → B → C → D → E → F → G → H → I → R) → A × B × C × D × E × F × G × H × I → R
nine f (a, b, c, d, e, g, h, i, j) = f a b c d e g h i j

pub ten : {A B C D E F G H I J : Type 0} {R : Type 2} → (A → B → C → D → E → F → G → H → I → J → R) → A × B × C × D × E × F × G × H × I × J → R
ten f (a, b, c, d, e, g, h, i, j, k) = f a b c d e g h i j k
