mod Committed
