mod Looping
