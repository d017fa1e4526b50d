mod LeastWalked
