-- Believed: what a walk is: the nodes of a text as the rules see them, each with its parts in order. Hold it against the sentences above its constructors.

mutual
  pub data Walk (S : Type 0) : Type 0 where
    -- a node and its parts
    Node : (site : S) (parts : Walks S) → Walk S
    -- parts with no node of their own around them
    Group : (parts : Walks S) → Walk S

  pub data Walks (S : Type 0) : Type 0 where
    End : Walks S
    Part : (w : Walk S) (ws : Walks S) → Walks S
